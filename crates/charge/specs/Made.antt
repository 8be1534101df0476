-- Document 02, S-13: charges as they were made and answered, each handing its remainder on to the next.
use Rattle.std.specs.Prelude.{ℕ, ◌+◌, ◌*◌, ◌<◌, ◌≡◌, List, [], ◌∷◌, Result}
use Rattle.model.specs.Causes.{Outcome, accepted, refused, granted}
use Rattle.charge.specs.Charge.{price_units, charge_sum}
use Rattle.charge.specs.Answers.{Bill, charge_said, ChargeIs}
use Rattle.model.specs.declared.Refusal.{Refusal}
use Rattle.charge.specs.declared.Billed.{Billed}

-- A call of `charge`: its total and bands, of any values and of any length, and its answer.
pub record Made : Type 0 where
  pub total : ℕ
  pub bands : ℕ
  pub ends : List ℕ
  pub prices : List ℕ
  pub answer : Result Billed Refusal

-- the cents of an answer, and the remainder after it; a refused charge has no cents and hands on what it was given
abbrev pub cents_of : Outcome Bill → ℕ
cents_of (accepted b) = b.cents
cents_of (refused _ _) = 0

abbrev pub handed_on : Outcome Bill → ℕ → ℕ
handed_on (accepted b) remainder = b.remainder
handed_on (refused _ _) remainder = remainder

-- the sum charged band by band, of an accepted charge
abbrev pub sum_of : Made → ℕ
sum_of m = granted (charge_said m.answer) (charge_sum m.ends m.prices m.bands m.total) 0

-- Each call was given the remainder that the one before it handed on, and kept the contract of `charge`.
abbrev pub KeptOn : ℕ → List Made → Type 0
KeptOn remainder [] = Unit {0}
KeptOn remainder (m ∷ ms) =
    ChargeIs m.ends m.prices m.total m.bands remainder m.answer × KeptOn (handed_on (charge_said m.answer) remainder) ms

-- over all charges
unfoldable pub all_cents : List Made → ℕ
all_cents [] = 0
all_cents (m ∷ ms) = cents_of (charge_said m.answer) + all_cents ms

unfoldable pub all_sums : List Made → ℕ
all_sums [] = 0
all_sums (m ∷ ms) = sum_of m + all_sums ms

unfoldable pub last_remainder : ℕ → List Made → ℕ
last_remainder remainder [] = remainder
last_remainder remainder (m ∷ ms) = last_remainder (handed_on (charge_said m.answer) remainder) ms

-- Nothing is lost or charged twice, whatever was charged with whatever bands; and a remainder is always below what is divided by.
pub record NothingLost (remainder : ℕ) (charges : List Made) : Type 0 where
  pub adds_up : all_cents charges * price_units + last_remainder remainder charges ≡ all_sums charges + remainder
  pub stays_small : remainder < price_units → last_remainder remainder charges < price_units

abbrev pub HandedOn : Type 0
HandedOn = (remainder : ℕ) (charges : List Made) → KeptOn remainder charges → NothingLost remainder charges
