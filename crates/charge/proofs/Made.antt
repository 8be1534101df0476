-- Over any charges that hand the remainder on, nothing is lost: the contract of `charge`, call after call.
use Prim.Native.Nat.{ℕ, ◌+◌, ◌*◌, ◌/◌, ◌%◌, ◌<◌}
use mathlib.Core.Path.{◌≡◌, ap}
use mathlib.Core.List.{[], ◌∷◌}
use native.Mathlib.Omega.{arith}
use Rattle.model.specs.Causes.{granted}
use Rattle.model.proofs.Verdicts.{accepted-of}
use Rattle.charge.specs.Charge.{price_units, charge_sum}
use Rattle.charge.specs.Answers.{Bill, charge_verdict, bill_of, charge_said, ChargeIs}
use Rattle.charge.specs.Made.{Made, cents_of, handed_on, all_cents, all_sums, last_remainder, HandedOn}
use Rattle.std.specs.Prelude.{Result, Ok, Err}
use Rattle.model.specs.declared.Refusal.{Refusal}
use Rattle.charge.specs.declared.Billed.{Billed}

-- the sum and the remainder divided once
divided : (s r cents left : ℕ) → cents ≡ (s + r) / price_units → left ≡ (s + r) % price_units → (cents * price_units + left ≡ s + r) × (left < price_units)
divided s r cents left c l = rw (c, l) (omega arith, omega arith)

-- one charge
one : (m : Made) (remainder : ℕ) (a : Result Billed Refusal) → ChargeIs m.ends m.prices m.total m.bands remainder a
    → (cents_of (charge_said a) * price_units + handed_on (charge_said a) remainder
    ≡ granted (charge_said a) (charge_sum m.ends m.prices m.bands m.total) 0 + remainder)
    × (remainder < price_units → handed_on (charge_said a) remainder < price_units)
unfolding bill_of
one m remainder (Ok c) e =
    let b = (accepted-of (charge_verdict m.ends m.prices m.total m.bands remainder) (bill_of m.ends m.prices m.total m.bands remainder) _ e
    ).1 in
    let d = divided (charge_sum m.ends m.prices m.bands m.total) remainder _ _ (ap (λ (x : Bill). x.cents) b) (ap (λ (x : Bill). x.remainder) b) in
    (d.0, λ h. d.1)
one m remainder (Err r) e = (omega arith, λ h. h)

pub handed-on : HandedOn
unfolding all_cents all_sums last_remainder
handed-on remainder [] kept = record { adds_up = omega arith; stays_small = λ h. h }
handed-on remainder (m ∷ ms) kept =
    let now = one m remainder m.answer kept.0 in
    let later = handed-on (handed_on (charge_said m.answer) remainder) ms kept.1 in
    record { adds_up = omega (arith, now.0, later.adds_up); stays_small = λ h. later.stays_small (now.1 h) }
