-- Document 02, S-7: the share of a face from four survey points, in the logic's account of IEEE 754 (`lib.Ieee`).
use Rattle.std.specs.Prelude.{ℕ, zero, suc, ◌*◌, Bool, false, not, cond, ◌&&◌, leb, get_or, Float, Result, Ok, Err}
use Rattle.std.specs.Float.{nan, inf, fin}
use Rattle.std.specs.Float.Ieee.{up, down, eq}
use Rattle.model.specs.Causes.{Outcome, accepted, refused, Verdict, each}
use Rattle.model.specs.Answers.{told}
use Rattle.survey_points.specs.Points.{plus, none, first_side, second_side, ratio, coordinates, allowed}
use Rattle.survey_points.specs.declared.Face.{Face}
use Rattle.survey.specs.declared.Stage.{Stage}
use Rattle.survey.specs.declared.Stage.TheVariants.{Ratio, Bad, Nothing}
use Rattle.model.specs.declared.Refusal.{Refusal}

unfoldable pub coordinates_verdict : Face → Verdict
coordinates_verdict f = each 19 8 (λ i. allowed (get_or (coordinates f) i nan))

-- The middle stage: the ratio, the first coordinate that is not allowed with its place, or that a + b is 0.
pub data Found : Type 0 where
  ratio_is : Float → Found
  bad_at : ℕ → Float → Found
  nothing : Found

abbrev pub found_after : Face → Verdict → Found
found_after f (accepted _) = cond (eq (plus (first_side f) (second_side f)) none) nothing (ratio_is (ratio f))
found_after f (refused _ i) = bad_at i (get_or (coordinates f) i nan)

unfoldable pub found : Face → Found
found f = found_after f (coordinates_verdict f)

-- The largest k up to n that passes a test, and 0 where none does.
unfoldable pub largest : (ℕ → Bool) → ℕ → ℕ
largest good zero = 0
largest good (suc n) = cond (good (suc n)) (suc n) (largest good n)

-- k / 256 is not above a ratio, for k from 1 on: m · 2 ^ e is the fraction m · up e / down e.
unfoldable pub not_above : ℕ → Float → Bool
not_above k nan = false
not_above k (inf s) = not s
not_above k (fin s m e) = not s && leb (k * down e) (256 * (m * up e))

-- The share: of the numbers k up to 255 whose 256th part is at most the ratio, the largest.
unfoldable pub share : Float → ℕ
share r = largest (λ k. not_above k r) 255

-- 20, behind 19: the ratio is not from 1/256 up to 1, the latter excluded; or there is none.
unfoldable pub share_of : Float → Outcome ℕ
share_of r = cond (not_above 1 r && not (not_above 256 r)) (accepted (share r)) (refused 20 0)

abbrev pub share_found : Found → Outcome ℕ
share_found (ratio_is r) = share_of r
share_found (bad_at i v) = refused 19 i
share_found nothing = refused 20 0

unfoldable pub face_share : Face → Outcome ℕ
face_share f = share_found (found f)

-- The number and the values of each case of both answers; those of a refused middle stage are 19 and 20 by `share_found`.
abbrev pub stage_said : Stage → Found
stage_said (Ratio r) = ratio_is r
stage_said (Bad c) = bad_at c.place c.value
stage_said Nothing = nothing

abbrev pub share_by : Result ℕ Refusal → Outcome ℕ
share_by (Ok k) = accepted k
share_by (Err r) = told r
