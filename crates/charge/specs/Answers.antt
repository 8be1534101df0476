-- Document 02, S-13: what charging a total refuses and answers.
use Rattle.std.specs.Prelude.{ℕ, ◌+◌, ◌/◌, ◌%◌, ◌≡◌, List, [], ◌∷◌, ◌++◌, leb, ltb, length, Result, Ok, Err}
use Rattle.model.specs.Causes.{Outcome, accepted, Verdict, ◌and_then◌, in_turn, need, long, each, between}
use Rattle.model.specs.Answers.{told}
use Rattle.charge.specs.Charge.{max_bands, last_end, price_units, charge_sum, band_good}
use Rattle.model.specs.declared.Refusal.{Refusal}
use Rattle.charge.specs.declared.Billed.{Billed}

-- whole cents, and the remainder that is handed on
pub record Bill : Type 0 where
  pub cents : ℕ
  pub remainder : ℕ

-- Of the number of bands, the lengths of their tables and the remainder: a number of bands that 25 refuses needs no entries, so it comes before
-- cause 2. Ends and prices are the tables at positions 17 and 18.
abbrev pub bill_causes : (bands ends prices remainder : ℕ) → List Verdict
bill_causes bands ends prices remainder =
    need 25 0 (between 1 max_bands bands) ∷ long 17 bands ends ∷ long 18 bands prices ∷ need 25 0 (ltb remainder price_units) ∷ []

module _ (ends prices : List ℕ) (total bands remainder : ℕ) where
  -- then the bands, and 26, a total above the last end
  unfoldable pub charge_verdict : Verdict
  charge_verdict = in_turn
      (bill_causes bands (length ends) (length prices) remainder ++ (each 25 bands (band_good ends prices bands) ∷ need 26 0 (leb total last_end) ∷ []))

  -- the sum and the previous remainder, divided once
  unfoldable pub bill_of : Bill
  bill_of = record {
    cents = (charge_sum ends prices bands total + remainder) / price_units;
    remainder = (charge_sum ends prices bands total + remainder) % price_units;
  }

-- Document 01, "What form each place needs", on answers that are enums.
abbrev pub charge_said : Result Billed Refusal → Outcome Bill
charge_said (Ok c) = accepted (record { cents = c.cents; remainder = c.remainder })
charge_said (Err r) = told r

abbrev pub ChargeIs : (ends prices : List ℕ) (total bands remainder : ℕ) → (Result Billed Refusal) → Type 0
ChargeIs ends prices total bands remainder r =
    charge_said r ≡ (charge_verdict ends prices total bands remainder and_then accepted (bill_of ends prices total bands remainder))
