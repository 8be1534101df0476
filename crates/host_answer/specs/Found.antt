-- Of the calls from C, which the papers leave to us: the numbers that a call finds, in entries that the host lends for them. After acceptance
-- they stand at their front, as many as there is room for; entries past them stay, and all of them after a refusal, so that a host that
-- does not ask lends none.
use Rattle.std.specs.Prelude.{ℕ, ◌≡◌, List, [], ◌∷◌}
use Rattle.model.specs.Causes.{Outcome, accepted, refused}
use Rattle.host_answer.specs.Number.{number_of}

unfoldable pub filled : (numbers found : List ℕ) → List ℕ
filled [] found = found
filled (x ∷ xs) [] = []
filled (x ∷ xs) (y ∷ found) = x ∷ filled xs found

-- what the call finds, as numbers, in the entries lent
abbrev pub found_by : {A : Type 0} → (A → List ℕ) → Outcome A → List ℕ → List ℕ
found_by numbers (accepted x) found = filled (numbers x) found
found_by numbers (refused _ _) found = found

-- a call that finds one number
abbrev pub alone : ℕ → List ℕ
alone n = n ∷ []

-- What a call from C that comes to o answers: its number, and the entries lent for what it finds.
pub record Answered {A : Type 0} (numbers : A → List ℕ) (o : Outcome A) (found : List ℕ) (r : ℕ) (found' : List ℕ) : Type 0 where
  pub number : r ≡ number_of o
  pub found-after : found' ≡ found_by numbers o found
