-- Verdicts in other groups.
use Prim.Native.Nat.{ℕ}
use mathlib.Core.Path.{◌≡◌, refl}
use mathlib.Core.Bool.{Bool}
use mathlib.Core.List.{List, [], ◌∷◌}
use Rattle.model.specs.Causes.{accepted, refused, Verdict, ◌and_then◌, in_turn, need, each, counts}
use Rattle.cutting_parts.specs.Cut.{Tables, Lagoon, whole_mesh}
use Rattle.cutting_parts.specs.Refusals.{cut_tables, cut_verdict}
use Rattle.cutting_causes.specs.Lengths.{values_found}

-- two parts, one after the other
pub parts_last : (v : Verdict) (good : ℕ → Bool) → ((v and_then need 24 0 (good 0)) and_then need 24 1 (good 1)) ≡ in_turn (v ∷ each 24 2 good ∷ [])
unfolding each ◌and_then◌
parts_last (accepted t) good = refl
parts_last (refused k i) good = refl

-- a verdict met twice
pub mesh-once : (m l f r s : Verdict) → ((m and_then l) and_then in_turn (m ∷ f ∷ r ∷ s ∷ [])) ≡ in_turn (m ∷ l ∷ f ∷ r ∷ s ∷ [])
unfolding ◌and_then◌
mesh-once (accepted t) (accepted u) f r s = refl
mesh-once (accepted t) (refused k i) f r s = refl
mesh-once (refused k i) l f r s = refl

group : (v m l f r s : Verdict) → in_turn (v ∷ m ∷ l ∷ f ∷ r ∷ s ∷ []) ≡ (v and_then in_turn (m ∷ l ∷ f ∷ r ∷ s ∷ []))
unfolding ◌and_then◌
group (accepted t) m l f r s = refl
group (refused k i) m l f r s = refl

-- counts and lengths first, then the values
pub lengths-first : (L : Lagoon) (labels : List ℕ) (lent₀ lent₁ : Tables)
    → cut_verdict L labels lent₀ lent₁ ≡ ((counts (whole_mesh L) and_then cut_tables L labels lent₀ lent₁) and_then values_found L labels)
unfolding cut_verdict values_found
lengths-first L labels lent₀ lent₁ = group (counts (whole_mesh L) and_then cut_tables L labels lent₀ lent₁) _ _ _ _ _
