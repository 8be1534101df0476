-- Addings worked by hand: entries at the ceiling.
use Prim.Native.Nat.{ℕ}
use mathlib.Core.Path.{◌≡◌, refl}
use mathlib.Core.List.{List, [], ◌∷◌}
use lib.IntN.{ℤ, pos, negsuc}
use Rattle.lists.specs.Table.{table, over}
use Rattle.model.specs.Causes.{Verdict, refused, fine, ◌and_then◌, need, each}
use Rattle.charge_totals.specs.Totals.{gain_of, gain_fit, gain_at, gain_good, add_verdict, added_totals}

everything : Unit {0}
unfolding ◌and_then◌ need each table over gain_of gain_fit gain_at gain_good add_verdict added_totals
everything = tt

-- over the rim, inside, over the rim
abbrev seconds : List ℕ
seconds = 4095 ∷ 1 ∷ 4095 ∷ []

abbrev verdict : List ℤ → List ℕ → Verdict
verdict moved totals = add_verdict seconds moved totals 3

pub record AddFigures : Type 0 where
  -- what goes outward over the rim is gained, what comes in and what moves inside is not
  pub outward : added_totals seconds (pos 100 ∷ pos 50 ∷ negsuc 29 ∷ []) (7 ∷ 0 ∷ 7 ∷ 9 ∷ []) 3 ≡ 107 ∷ 0 ∷ 7 ∷ 9 ∷ []
  -- to the ceiling, and one past it at either end
  pub full : verdict (pos 1 ∷ pos 0 ∷ pos 1099511627776 ∷ []) (1099511627775 ∷ 0 ∷ 0 ∷ []) ≡ fine
  pub past_first : verdict (pos 2 ∷ pos 0 ∷ pos 1099511627776 ∷ []) (1099511627775 ∷ 0 ∷ 0 ∷ []) ≡ refused 26 0
  pub past_last : verdict (pos 1 ∷ pos 0 ∷ pos 1099511627777 ∷ []) (1099511627775 ∷ 0 ∷ 0 ∷ []) ≡ refused 26 2
  -- an entry past it that gains nothing, and an interior one
  pub no_gain : verdict (negsuc 4 ∷ pos 9 ∷ pos 0 ∷ []) (1099511627777 ∷ 1099511627777 ∷ 1099511627777 ∷ []) ≡ fine

pub add-figures : AddFigures
unfolding everything
add-figures = record {
  outward = refl;
  full = refl;
  past_first = refl;
  past_last = refl;
  no_gain = refl;
}
