-- Bands that are good, the sum over them, and what a charge comes to.
use Prim.Native.Nat.{ℕ, ◌+◌, ◌-◌, ◌*◌, ◌/◌, ◌%◌, ◌^◌, ◌≤◌, ◌<◌, min}
use mathlib.Core.Path.{◌≡◌, sym, ap, ◌∙◌}
use mathlib.Core.Bool.{Bool, true, false, not, ◌&&◌, ◌||◌}
use mathlib.Core.List.{List}
use native.Mathlib.Nat.{mul-le-mul_left}
use native.Mathlib.Numerals.{add-one}
use native.Mathlib.Omega.{arith}
use borrow.Author.Tests.{ltb-true, leb-true, lt-ltb, le-ltb, le-leb, lt-leb}
use lib.Dec.{eqb, leb, ltb}
use lib.ListN.{length, get_or}
use Rattle.lists.proofs.Sums.{sum-zero, sum_more}
use Rattle.lists.proofs.Tests.{both_true}
use Rattle.model.specs.Causes.{accepted, Verdict, refused, fine, ◌and_then◌, in_turn, each, need}
use Rattle.model.proofs.Verdicts.{past, out, all-fine, long-fine, each-fine, need-fine, both-fine}
use Rattle.charge.specs.Charge.{last_end, max_price, price_units, begin_of, in_band, charge_sum, band_good}
use Rattle.charge.specs.Answers.{bill_causes, charge_verdict, bill_of}

-- ONE BAND: how each of its tests decides
pub too-low : {begin end : ℕ} (b c : Bool) → end ≤ begin → false ≡ (ltb begin end && b && c)
too-low {begin} {end} b c h = rw (le-ltb begin end h)

pub too-dear : {begin end price : ℕ} (c : Bool) → begin < end → max_price < price → false ≡ (ltb begin end && leb price max_price && c)
too-dear {begin} {end} {price} c h p = rw (lt-ltb begin end h, lt-leb price max_price p)

pub last-band : {begin end price : ℕ} {last : Bool} (c : Bool) → begin < end → price ≤ max_price → last ≡ true → c
    ≡ (ltb begin end && leb price max_price && (not last || c))
last-band {begin} {end} {price} c h p t = rw (lt-ltb begin end h, le-leb price max_price p, t)

pub other-band : {begin end price : ℕ} {last : Bool} (c : Bool) → begin < end → price ≤ max_price → last ≡ false → true
    ≡ (ltb begin end && leb price max_price && (not last || c))
other-band {begin} {end} {price} c h p t = rw (lt-ltb begin end h, le-leb price max_price p, t)

-- the next band begins where this one ends
pub begin-next : (ends : List ℕ) (i : ℕ) → get_or ends i 0 ≡ begin_of ends (i + 1)
begin-next ends i = rw (add-one i)

module _ (ends prices : List ℕ) (bands : ℕ) where
  pub band-is : (i : ℕ) {begin : ℕ} {b : Bool} → begin ≡ begin_of ends i
      → b ≡ (ltb begin (get_or ends i 0) && leb (get_or prices i 0) max_price && (not (eqb (i + 1) bands) || eqb (get_or ends i 0) last_end)) → b
      ≡ band_good ends prices bands i
  unfolding band_good
  band-is i e q = q ∙ rw e

  module _ (good : each 25 bands (band_good ends prices bands) ≡ fine) (i : ℕ) (h : i < bands) where
    pub band-fit : (begin_of ends i < get_or ends i 0) × (get_or prices i 0 ≤ max_price)
    unfolding band_good
    band-fit =
        let a = both_true (ltb (begin_of ends i) (get_or ends i 0) && leb (get_or prices i 0) max_price) (not (eqb (i + 1) bands) || eqb (get_or ends i 0) last_end)
        (each-fine 25 bands (band_good ends prices bands) good i h) in
        let b = both_true (ltb (begin_of ends i) (get_or ends i 0)) (leb (get_or prices i 0) max_price) a.0 in
        (ltb-true _ _ b.0, leb-true _ _ b.1)

    -- what adding its charge asks for
    pub more-asks : {total : ℕ} → total ≤ last_end → {from to price sum : ℕ} → from ≡ min total (begin_of ends i) → to ≡ min total (get_or ends i 0)
        → price ≡ get_or prices i 0 → sum ≤ from * max_price → (from ≤ to) × (to ≤ last_end) × (price ≤ max_price) × (sum ≤ from * max_price)
    more-asks l f t p s = (omega (arith, band-fit.0), omega arith, omega (arith, band-fit.1), s)

-- THE SUM, band after band
module _ (ends prices : List ℕ) (total : ℕ) where
  pub sum-none : 0 ≡ charge_sum ends prices 0 total
  unfolding charge_sum
  sum-none = sym (sum-zero (λ i. in_band ends prices total i * get_or prices i 0))

  pub sum-next : (i : ℕ) {from to price before after : ℕ} → from ≡ min total (begin_of ends i) → to ≡ min total (get_or ends i 0) → price ≡ get_or prices i 0
      → before ≡ charge_sum ends prices i total → after ≡ before + (to - from) * price → after ≡ charge_sum ends prices (i + 1) total
  unfolding charge_sum in_band
  sum-next i f t p b e =
      e ∙ rw (b, t, f, p) (sym (sum_more i (λ k. (min total (get_or ends k 0) - min total (begin_of ends k)) * get_or prices k 0)))

  pub to-next : (i : ℕ) {to : ℕ} → to ≡ min total (get_or ends i 0) → to ≡ min total (begin_of ends (i + 1))
  to-next i e = e ∙ ap (λ (n : ℕ). min total n) (begin-next ends i)

  pub sum-all : (bands i : ℕ) {s : ℕ} → i ≤ bands → bands ≤ i → s ≡ charge_sum ends prices i total → s ≡ charge_sum ends prices bands total
  sum-all bands i h l e = let q : i ≡ bands = omega arith in e ∙ ap (λ (n : ℕ). charge_sum ends prices n total) q

-- no sum or product leaves 64 bits
pub part_small : (from : ℕ) {to price : ℕ} → to ≤ last_end → price ≤ max_price → (to - from) * price < 2 ^ 64
part_small from {to} {price} h l = omega (arith, mul-le-mul_left (to - from) l)

pub more-small : {sum from to price : ℕ} → from ≤ to → price ≤ max_price → sum ≤ from * max_price → sum + (to - from) * price ≤ to * max_price
more-small {sum} {from} {to} {price} h l s = omega (arith, mul-le-mul_left (to - from) l)

-- WHAT A CHARGE IS REFUSED FOR
pub record ChargePassed (ends prices : List ℕ) (total bands remainder : ℕ) : Type 0 where
  pub ends_long : bands ≤ length ends
  pub prices_long : bands ≤ length prices
  pub remainder_small : remainder < price_units
  pub bands_fine : each 25 bands (band_good ends prices bands) ≡ fine
  pub total_most : total ≤ last_end

-- the tables are long enough where what is known before any band finds nothing
pub lent-long : {lent : Verdict} {bands ends prices : ℕ} (remainder : ℕ) → lent ≡ in_turn (bill_causes bands ends prices remainder) → lent ≡ fine
    → (bands ≤ ends) × (bands ≤ prices)
lent-long {bands = bands} {ends = ends} {prices = prices} remainder is e =
    let a = all-fine (bill_causes bands ends prices remainder) (sym is ∙ e) in (long-fine _ _ _ a.1.0, long-fine _ _ _ a.1.1.0)

module _ (ends prices : List ℕ) (total bands remainder : ℕ) where
  module _ {lent : Verdict} (is : lent ≡ in_turn (bill_causes bands (length ends) (length prices) remainder)) where
    in_order : charge_verdict ends prices total bands remainder
        ≡ ((lent and_then each 25 bands (band_good ends prices bands)) and_then need 26 0 (leb total last_end))
    unfolding charge_verdict
    in_order = rw is

    pub judged-out : {k i : ℕ} → lent ≡ refused k i → charge_verdict ends prices total bands remainder ≡ refused k i
    judged-out e = in_order ∙ out _ (out _ e)

    pub judged-on : lent ≡ fine → charge_verdict ends prices total bands remainder
        ≡ (each 25 bands (band_good ends prices bands) and_then need 26 0 (leb total last_end))
    judged-on e = in_order ∙ ap (λ (v : Verdict). v and_then need 26 0 (leb total last_end)) (past _ e)

  -- an accepted charge, by the sum that was found
  pub billed : charge_verdict ends prices total bands remainder ≡ fine → {s : ℕ} → s ≡ charge_sum ends prices bands total
      → accepted (record { cents = (s + remainder) / price_units; remainder = (s + remainder) % price_units })
      ≡ (charge_verdict ends prices total bands remainder and_then accepted (bill_of ends prices total bands remainder))
  unfolding bill_of
  billed v e = rw e (sym (past _ v))

  pub charge-passed : charge_verdict ends prices total bands remainder ≡ fine → ChargePassed ends prices total bands remainder
  unfolding charge_verdict
  charge-passed e =
      let p = both-fine (in_turn (bill_causes bands (length ends) (length prices) remainder) and_then each 25 bands (band_good ends prices bands)) _ e in
      let q = both-fine (in_turn (bill_causes bands (length ends) (length prices) remainder)) _ p.0 in
      let a = all-fine (bill_causes bands (length ends) (length prices) remainder) q.0 in
      record {
        ends_long = long-fine _ _ _ a.1.0;
        prices_long = long-fine _ _ _ a.1.1.0;
        remainder_small = ltb-true _ _ (need-fine 25 0 _ a.1.1.1.0);
        bands_fine = q.1;
        total_most = leb-true _ _ (need-fine 26 0 _ p.1);
      }
