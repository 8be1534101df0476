-- Document 01, "Causes", 9 and 10 of lent tables, and what the causes before them leave true of these.
use Rattle.std.specs.Prelude.{ℕ, ◌≤◌, ◌<◌, List, eqb, leb, ℤ, pos, length, get_or}
use Rattle.signed.specs.Sign.{size}
use Rattle.model.specs.Mesh.{max_cells, max_faces, rim, incoming, outgoing}
use Rattle.model.specs.Causes.{Verdict, ◌and_then◌, each, faces_only}
use Rattle.model.specs.Claims.{max_claim}

-- what flows through the faces into a cell, and out of it
module _ (faces : ℕ) (firsts seconds : List ℕ) (fluxes : List ℤ) where
  abbrev pub inflow : ℕ → ℕ
  inflow c = incoming (faces_only faces firsts seconds) (λ f. get_or fluxes f (pos 0)) c

  abbrev pub outflow : ℕ → ℕ
  outflow c = outgoing (faces_only faces firsts seconds) (λ f. get_or fluxes f (pos 0)) c

  -- past causes 4 and 8: no number is beyond the rim's mark, and no flux is too large to be summed; nor is a claim, past 21
  abbrev pub FacesFit : Type 0
  FacesFit = (f : ℕ) → f < faces → (get_or firsts f 0 ≤ rim) × (get_or seconds f 0 ≤ rim) × (size (get_or fluxes f (pos 0)) ≤ max_claim)

  module _ (cells : ℕ) (volumes : List ℕ) where
    -- past causes 1 and 2
    abbrev pub LongEnough : Type 0
    LongEnough = (cells ≤ max_cells)
        × (faces ≤ max_faces)
        × (cells ≤ length volumes)
        × (faces ≤ length firsts)
        × (faces ≤ length seconds)
        × (faces ≤ length fluxes)

    abbrev pub flows_verdict : Verdict
    flows_verdict = each 9 cells (λ c. eqb (inflow c) (outflow c)) and_then each 10 cells (λ c. leb (outflow c) (get_or volumes c 0))
