-- Document 02, S-13: a period total charged band by band.
use Rattle.std.specs.Prelude.{ℕ, zero, suc, ◌+◌, ◌-◌, ◌*◌, min, Bool, not, ◌&&◌, ◌||◌, List, eqb, leb, ltb, get_or}
use Rattle.lists.specs.Fold.{sum}

-- one to eight bands, the last ending here; prices are in cents per so many mass units
abbrev pub max_bands : ℕ
max_bands = 8

abbrev pub last_end : ℕ
last_end = 1099511627776

abbrev pub max_price : ℕ
max_price = 1000000

abbrev pub price_units : ℕ
price_units = 1000000

-- where band i begins: at the end of the one before it, the first at 0
abbrev pub begin_of : List ℕ → ℕ → ℕ
begin_of ends zero = 0
begin_of ends (suc i) = get_or ends i 0

module _ (ends prices : List ℕ) where
  -- what of a total lies within band i; never cut off at 0, since by 25 a band ends above where it begins
  unfoldable pub in_band : (total i : ℕ) → ℕ
  in_band total i = min total (get_or ends i 0) - min total (begin_of ends i)

  -- the total charged band by band
  unfoldable pub charge_sum : (bands total : ℕ) → ℕ
  charge_sum bands total = sum bands (λ i. in_band total i * get_or prices i 0)

  -- 25, one of so many bands: its end from 1 and above the one before, its price within the range, the last band's end as said
  unfoldable pub band_good : (bands i : ℕ) → Bool
  band_good bands i =
      ltb (begin_of ends i) (get_or ends i 0)
      && leb (get_or prices i 0) max_price
      && (not (eqb (i + 1) bands) || eqb (get_or ends i 0) last_end)
