-- Document 02, S-12: what the call that cuts promises.
use Rattle.std.specs.Prelude.{ℕ, ◌≡◌, List, Result, Ok, Err}
use Rattle.model.specs.Causes.{Outcome, accepted}
use Rattle.model.specs.Answers.{told}
use Rattle.cutting_parts.specs.Cut.{Tables, Lagoon}
use Rattle.cutting_parts.specs.Refusals.{Sizes, cut_answer, cut_into}
use Rattle.model.specs.declared.Refusal.{Refusal}
use Rattle.cutting.specs.declared.Counts.{Counts}

-- The papers' values of each case of its answer: both parts' counts, or number and place.
abbrev pub cut_said : Result Counts Refusal → Outcome Sizes
cut_said (Ok n) = accepted (record { cells₀ = n.cells_0; faces₀ = n.faces_0; cells₁ = n.cells_1; faces₁ = n.faces_1 })
cut_said (Err r) = told r

-- The answer, and each part's tables afterwards. A refusal leaves every table as it was; entries past a part's own counts always stay.
pub record CutPromise (L : Lagoon) (labels : List ℕ) (lent₀ lent₁ : Tables) (r : Result Counts Refusal) (after₀ after₁ : Tables) : Type 0 where
  pub answer : cut_said r ≡ cut_answer L labels lent₀ lent₁
  pub part_0 : after₀ ≡ cut_into L labels lent₀ lent₁ 0 lent₀
  pub part_1 : after₁ ≡ cut_into L labels lent₀ lent₁ 1 lent₁
