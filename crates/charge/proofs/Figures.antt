-- Charges worked by hand.
use Prim.Native.Nat.{ℕ}
use mathlib.Core.Path.{◌≡◌, refl}
use mathlib.Core.List.{[], ◌∷◌}
use Rattle.lists.specs.Fold.{sum}
use Rattle.model.specs.Causes.{Verdict, refused, fine, ◌and_then◌, need, each}
use Rattle.charge.specs.Charge.{in_band, charge_sum, band_good}
use Rattle.charge.specs.Answers.{Bill, charge_verdict, bill_of}

everything : Unit {0}
unfolding sum ◌and_then◌ need each in_band charge_sum band_good charge_verdict bill_of
everything = tt

abbrev bill : ℕ → ℕ → Bill
bill cents remainder = record { cents = cents; remainder = remainder }

-- 2,500,000 at bands to 1,000,000 for 3 cents, to 2,000,000 for 2, then 1: 3 + 2 + a half cent; with 500,000 left from before a whole one
pub three-bands : bill_of (1000000 ∷ 2000000 ∷ 1099511627776 ∷ []) (3 ∷ 2 ∷ 1 ∷ []) 2500000 3 0 ≡ bill 5 500000
unfolding everything
three-bands = refl

pub with-remainder : bill_of (1000000 ∷ 2000000 ∷ 1099511627776 ∷ []) (3 ∷ 2 ∷ 1 ∷ []) 2500000 3 500000 ≡ bill 6 0
unfolding everything
with-remainder = refl

-- a total at the end of a band is of that band, one more of the next; entries past the number of bands mean nothing
pub at-the-end : bill_of (1000000 ∷ 1099511627776 ∷ 7 ∷ []) (1000000 ∷ 0 ∷ 5000000 ∷ []) 1000000 2 0 ≡ bill 1000000 0
unfolding everything
at-the-end = refl

pub past_the_end : charge_verdict (1000000 ∷ 1099511627776 ∷ 7 ∷ []) (1000000 ∷ 0 ∷ 5000000 ∷ []) 1099511627776 2 999999 ≡ fine
unfolding everything
past_the_end = refl

-- the number of bands before the tables, then the remainder, then the bands, then the total
pub nine-bands : charge_verdict [] [] 0 9 0 ≡ refused 25 0
unfolding everything
nine-bands = refl

pub short-ends : charge_verdict [] [] 0 1 1000000 ≡ refused 2 17
unfolding everything
short-ends = refl

pub not-above : charge_verdict (5 ∷ 5 ∷ 1099511627776 ∷ []) (0 ∷ 0 ∷ 0 ∷ []) 1099511627777 3 0 ≡ refused 25 1
unfolding everything
not-above = refl

pub last-too-low : charge_verdict (5 ∷ 1099511627775 ∷ []) (0 ∷ 0 ∷ []) 1099511627777 2 0 ≡ refused 25 1
unfolding everything
last-too-low = refl

pub too_much : charge_verdict (1099511627776 ∷ []) (0 ∷ []) 1099511627777 1 0 ≡ refused 26 0
unfolding everything
too_much = refl

-- a total at the end of each band, and one past it
abbrev three_bands : ℕ → ℕ → Bill
three_bands total remainder = bill_of (1000000 ∷ 2000000 ∷ 1099511627776 ∷ []) (3 ∷ 2 ∷ 1 ∷ []) total 3 remainder

abbrev eight_bands : ℕ → ℕ → Bill
eight_bands total remainder =
    bill_of (10 ∷ 20 ∷ 30 ∷ 40 ∷ 50 ∷ 60 ∷ 70 ∷ 1099511627776 ∷ []) (100000 ∷ 200000 ∷ 300000 ∷ 400000 ∷ 500000 ∷ 600000 ∷ 700000 ∷ 800000 ∷ []) total 8
    remainder

pub record Ends : Type 0 where
  pub at-first : three_bands 1000000 0 ≡ bill 3 0
  pub past_first : three_bands 1000001 0 ≡ bill 3 2
  pub at-second : three_bands 2000000 0 ≡ bill 5 0
  pub past_second : three_bands 2000001 0 ≡ bill 5 1
  pub at_last : three_bands 1099511627776 999999 ≡ bill 1099515 627775
  pub of_eight : eight_bands 10 0 ≡ bill 1 0
  pub past_one : eight_bands 11 0 ≡ bill 1 200000
  pub at_seven : eight_bands 70 0 ≡ bill 28 0
  pub past_seven : eight_bands 71 0 ≡ bill 28 800000
  pub all_eight : eight_bands 1099511627776 999999 ≡ bill 879609302193 799999
  -- prices 0 and 1,000,000; and the remainder that lacks a millionth of a cent
  pub free_and_dear : bill_of (10 ∷ 20 ∷ 1099511627776 ∷ []) (0 ∷ 1000000 ∷ 0 ∷ []) 1099511627776 3 999999 ≡ bill 10 999999
  pub whole_cent : bill_of (1099511627776 ∷ []) (1 ∷ []) 1 1 999999 ≡ bill 1 0

pub ends-figures : Ends
unfolding everything
ends-figures = record {
  at-first = refl;
  past_first = refl;
  at-second = refl;
  past_second = refl;
  at_last = refl;
  of_eight = refl;
  past_one = refl;
  at_seven = refl;
  past_seven = refl;
  all_eight = refl;
  free_and_dear = refl;
  whole_cent = refl;
}

-- 25, a bad band: the first, one in the middle, the last
abbrev ended : ℕ → ℕ → ℕ → Verdict
ended a b c = charge_verdict (a ∷ b ∷ c ∷ []) (1 ∷ 1 ∷ 1 ∷ []) 0 3 0

abbrev priced : ℕ → ℕ → ℕ → Verdict
priced a b c = charge_verdict (5 ∷ 6 ∷ 1099511627776 ∷ []) (a ∷ b ∷ c ∷ []) 0 3 0

pub record BadBands : Type 0 where
  pub none_first : ended 0 6 1099511627776 ≡ refused 25 0
  pub none_middle : ended 5 0 1099511627776 ≡ refused 25 1
  pub none_last : ended 5 6 0 ≡ refused 25 2
  pub same_middle : ended 5 5 1099511627776 ≡ refused 25 1
  pub same_last : ended 5 1099511627776 1099511627776 ≡ refused 25 2
  pub low_last : ended 5 6 1099511627775 ≡ refused 25 2
  pub high_last : ended 5 6 1099511627777 ≡ refused 25 2
  pub dear_first : priced 1000001 1 1 ≡ refused 25 0
  pub dear_middle : priced 1 1000001 1 ≡ refused 25 1
  pub dear_last : priced 1 1 1000001 ≡ refused 25 2
  pub dearest : priced 1000000 1000000 1000000 ≡ fine

pub bad-bands : BadBands
unfolding everything
bad-bands = record {
  none_first = refl;
  none_middle = refl;
  none_last = refl;
  same_middle = refl;
  same_last = refl;
  low_last = refl;
  high_last = refl;
  dear_first = refl;
  dear_middle = refl;
  dear_last = refl;
  dearest = refl;
}
