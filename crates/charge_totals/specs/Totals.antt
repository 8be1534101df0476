-- Document 02, S-13: the period totals, and what adding a step's moved masses to them refuses and leaves.
use Rattle.std.specs.Prelude.{ℕ, ◌+◌, ◌≡◌, Bool, cond, ◌||◌, List, [], ◌∷◌, ◌++◌, eqb, leb, ℤ, pos, length, get_or, Result}
use Rattle.lists.specs.Table.{table, over}
use Rattle.signed.specs.Sign.{forward}
use Rattle.model.specs.Mesh.{rim, max_faces}
use Rattle.model.specs.Causes.{Verdict, granted, in_turn, need, long, each}
use Rattle.model.specs.Answers.{said}
use Rattle.model.specs.declared.Refusal.{Refusal}

-- the largest period total
abbrev pub max_total : ℕ
max_total = 1099511627776

-- What a face's entry gains by a moved mass: over the rim what went outward. Inward mass is not set against it, an interior face gains nothing.
unfoldable pub gain_of : (second : ℕ) → ℤ → ℕ
gain_of second moved = cond (eqb second rim) (forward moved) 0

-- 26, in adding: a mass gained does not bring the entry past the ceiling. An entry that gains nothing is not judged.
unfoldable pub gain_fit : (entry gain : ℕ) → Bool
gain_fit entry gain = eqb gain 0 || leb (entry + gain) max_total

-- Causes 1 and 2, of so many faces and tables of such lengths. The totals, an entry for each face, have position 16.
abbrev pub lent_causes : (faces seconds moved totals : ℕ) → List Verdict
lent_causes faces seconds moved totals = need 1 1 (leb faces max_faces) ∷ long 2 faces seconds ∷ long 9 faces moved ∷ long 16 faces totals ∷ []

module _ (seconds : List ℕ) (moved : List ℤ) where
  unfoldable pub gain_at : ℕ → ℕ
  gain_at f = gain_of (get_or seconds f 0) (get_or moved f (pos 0))

  module _ (totals : List ℕ) where
    unfoldable pub gain_good : ℕ → Bool
    gain_good f = gain_fit (get_or totals f 0) (gain_at f)

    module _ (faces : ℕ) where
      -- 26 has the face as its place; every face is judged before any entry is written
      unfoldable pub add_verdict : Verdict
      add_verdict = in_turn (lent_causes faces (length seconds) (length moved) (length totals) ++ (each 26 faces gain_good ∷ []))

      -- the totals after an adding that is accepted: each entry with what it gains, those past the faces as they were
      unfoldable pub added_totals : List ℕ
      added_totals = over (table faces (λ f. get_or totals f 0 + gain_at f)) totals

      -- what an adding answers and leaves; a refusal changes nothing
      pub record AddPromise (r : Result (Unit {0}) Refusal) (totals' : List ℕ) : Type 0 where
        pub answer : said r ≡ add_verdict
        pub totals-after : totals' ≡ granted add_verdict added_totals totals
