-- A charge from C that is accepted is one of `charge`, with the cents and the remainder that stand in the entries lent; so S-13's law of charges
-- holds of it, and call after call of any list.
use Prim.Native.Nat.{ℕ, ◌+◌, ◌*◌, ◌≤◌, ◌<◌}
use mathlib.Core.Path.{◌≡◌, refl, sym, ◌∙◌}
use mathlib.Core.List.{List, [], ◌∷◌}
use native.Mathlib.Omega.{arith}
use lib.ListN.{length, get_or}
use Rattle.model.specs.Causes.{accepted, refused, Verdict, fine, ◌and_then◌, granted}
use Rattle.model.proofs.Verdicts.{past}
use Rattle.charge.specs.Charge.{price_units, charge_sum}
use Rattle.charge.specs.Answers.{Bill, charge_verdict, bill_of}
use Rattle.charge.specs.Made as call
use Rattle.charge.proofs.Made.{handed-on}
use Rattle.host_answer.specs.Found.{filled}
use Rattle.host_period_promises.specs.Period.{billed, ChargeFromC}
use Rattle.host_period_promises.proofs.Small.{charge-small}
use Rattle.promises.specs.Steps.{host_said}
use Rattle.promises.proofs.Numbers.{said-giving, small-before}
use Rattle.charge_from_c.specs.Charges.{Made, cents_of, handed_on, sum_of, KeptOn, all_cents, all_sums, last_remainder, HandedOn}
use Rattle.std.specs.Prelude.{Ok}

-- two numbers found, where there is room for them
both-there : (x y : ℕ) (found : List ℕ) → 2 ≤ length found → (get_or (filled (x ∷ y ∷ []) found) 0 0 ≡ x) × (get_or (filled (x ∷ y ∷ []) found) 1 0 ≡ y)
unfolding filled
both-there x y [] h = absurd (omega arith)
both-there x y (a ∷ []) h = absurd (omega arith)
both-there x y (a ∷ b ∷ found) h = (refl, refl)

module _ (m : Made) (remainder : ℕ) (room : 2 ≤ length m.found)
    (kept : ChargeFromC m.ends m.prices m.total m.bands remainder m.found m.number m.found_after) where
  abbrev v : Verdict
  v = charge_verdict m.ends m.prices m.total m.bands remainder

  abbrev bill : Bill
  bill = bill_of m.ends m.prices m.total m.bands remainder

  -- the call with what the host has found
  abbrev as_call : call.Made
  as_call = record {
    total = m.total;
    bands = m.bands;
    ends = m.ends;
    prices = m.prices;
    answer = Ok (record { cents = get_or m.found_after 0 0; remainder = get_or m.found_after 1 0 });
  }

  accepted-is : v ≡ fine → call.KeptOn remainder (as_call ∷ [])
  unfolding ◌and_then◌
  accepted-is ok =
      let f : m.found_after ≡ filled (billed bill) m.found = kept.found-after ∙ rw ok in
      let b = both-there bill.cents bill.remainder m.found room in
      (rw (f, b.0, b.1) (sym (past _ ok)), tt)

  one : (cents_of m * price_units + handed_on m remainder ≡ sum_of m + remainder) × (remainder < price_units → handed_on m remainder < price_units)
  unfolding call.all_cents call.all_sums call.last_remainder
  one = go (host_said m.number) (said-giving v bill m.number kept.number
      (small-before v bill (charge-small m.ends m.prices m.total m.bands remainder)))
    where
      go : (u : Verdict) → u ≡ v
          → (granted u (get_or m.found_after 0 0) 0 * price_units + granted u (get_or m.found_after 1 0) remainder
          ≡ granted u (charge_sum m.ends m.prices m.bands m.total) 0 + remainder)
          × (remainder < price_units → granted u (get_or m.found_after 1 0) remainder < price_units)
      go (accepted t) e = let n = handed-on remainder (as_call ∷ []) (accepted-is (sym e)) in (omega (arith, n.adds_up), n.stays_small)
      go (refused i j) e = (omega arith, λ h. h)

pub handed_on-from-c : HandedOn
unfolding all_cents all_sums last_remainder
handed_on-from-c remainder [] kept = record { adds_up = omega arith; stays_small = λ h. h }
handed_on-from-c remainder (m ∷ ms) kept =
    let now = one m remainder kept.0 kept.1 in
    let later = handed_on-from-c (handed_on m remainder) ms kept.2 in
    record { adds_up = omega (arith, now.0, later.adds_up); stays_small = λ h. later.stays_small (now.1 h) }
