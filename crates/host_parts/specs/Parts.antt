-- Document 02, S-12, for a host in C: the answer is one number, and the counts of both parts stand in entries lent for them. The tables are
-- those of the call itself.
use Rattle.std.specs.Prelude.{ℕ, ◌≡◌, List, [], ◌∷◌}
use Rattle.cutting_parts.specs.Cut.{Tables, Lagoon}
use Rattle.cutting_parts.specs.Refusals.{Sizes, cut_answer, cut_into}
use Rattle.host_answer.specs.Found.{Answered}

abbrev pub counted : Sizes → List ℕ
counted n = n.cells₀ ∷ n.faces₀ ∷ n.cells₁ ∷ n.faces₁ ∷ []

pub record CutFromC (L : Lagoon) (labels : List ℕ) (lent₀ lent₁ : Tables) (found : List ℕ) (r : ℕ) (after₀ after₁ : Tables) (found' : List ℕ)
    : Type 0 where
  pub answer : Answered counted (cut_answer L labels lent₀ lent₁) found r found'
  pub part_0 : after₀ ≡ cut_into L labels lent₀ lent₁ 0 lent₀
  pub part_1 : after₁ ≡ cut_into L labels lent₀ lent₁ 1 lent₁
