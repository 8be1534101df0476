-- Document 02, S-13, of charges as a host in C makes them and reads them, each handing its remainder on to the next.
use Rattle.std.specs.Prelude.{ℕ, ◌+◌, ◌*◌, ◌≤◌, ◌<◌, ◌≡◌, List, [], ◌∷◌, length, get_or}
use Rattle.model.specs.Causes.{granted}
use Rattle.charge.specs.Charge.{price_units, charge_sum}
use Rattle.host_period_promises.specs.Period.{ChargeFromC}
use Rattle.promises.specs.Steps.{host_said}

-- A call of `lagoon_charge`: its total and bands, of any values and of any length; the entries lent for what is found, before and after; its number.
pub record Made : Type 0 where
  pub total : ℕ
  pub bands : ℕ
  pub ends : List ℕ
  pub prices : List ℕ
  pub found : List ℕ
  pub number : ℕ
  pub found_after : List ℕ

-- cents and remainder as the host finds them; a refused charge has no cents, and the host hands on what it had
abbrev pub cents_of : Made → ℕ
cents_of m = granted (host_said m.number) (get_or m.found_after 0 0) 0

abbrev pub handed_on : Made → ℕ → ℕ
handed_on m remainder = granted (host_said m.number) (get_or m.found_after 1 0) remainder

-- the sum charged band by band, of an accepted charge
abbrev pub sum_of : Made → ℕ
sum_of m = granted (host_said m.number) (charge_sum m.ends m.prices m.bands m.total) 0

-- Each call was given the remainder that the one before it handed on, and kept its contract; and there was room for both numbers: of an
-- accepted charge lent fewer entries the remainder is told to nobody.
abbrev pub KeptOn : ℕ → List Made → Type 0
KeptOn remainder [] = Unit {0}
KeptOn remainder (m ∷ ms) =
    (2 ≤ length m.found)
    × ChargeFromC m.ends m.prices m.total m.bands remainder m.found m.number m.found_after
    × KeptOn (handed_on m remainder) ms

-- over all charges
unfoldable pub all_cents : List Made → ℕ
all_cents [] = 0
all_cents (m ∷ ms) = cents_of m + all_cents ms

unfoldable pub all_sums : List Made → ℕ
all_sums [] = 0
all_sums (m ∷ ms) = sum_of m + all_sums ms

unfoldable pub last_remainder : ℕ → List Made → ℕ
last_remainder remainder [] = remainder
last_remainder remainder (m ∷ ms) = last_remainder (handed_on m remainder) ms

-- nothing is lost or charged twice
pub record NothingLost (remainder : ℕ) (charges : List Made) : Type 0 where
  pub adds_up : all_cents charges * price_units + last_remainder remainder charges ≡ all_sums charges + remainder
  pub stays_small : remainder < price_units → last_remainder remainder charges < price_units

abbrev pub HandedOn : Type 0
HandedOn = (remainder : ℕ) (charges : List Made) → KeptOn remainder charges → NothingLost remainder charges
