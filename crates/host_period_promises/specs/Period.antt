-- Document 02, S-13, for a host in C: a step's moved masses added to the totals of a period, and a total charged.
use Rattle.std.specs.Prelude.{ℕ, ◌≡◌, List, [], ◌∷◌, ℤ}
use Rattle.model.specs.Causes.{accepted, ◌and_then◌, granted}
use Rattle.charge_totals.specs.Totals.{add_verdict, added_totals}
use Rattle.charge.specs.Answers.{Bill, charge_verdict, bill_of}
use Rattle.host_answer.specs.Number.{number_of}
use Rattle.host_answer.specs.Found.{Answered}

-- a refusal leaves the totals as they were
pub record AddFromC (seconds : List ℕ) (moved : List ℤ) (totals : List ℕ) (faces : ℕ) (r : ℕ) (totals' : List ℕ) : Type 0 where
  pub number : r ≡ number_of (add_verdict seconds moved totals faces)
  pub totals-after : totals' ≡ granted (add_verdict seconds moved totals faces) (added_totals seconds moved totals faces) totals

-- cents, then the new remainder
abbrev pub billed : Bill → List ℕ
billed b = b.cents ∷ b.remainder ∷ []

abbrev pub ChargeFromC : (ends prices : List ℕ) (total bands remainder : ℕ) (found : List ℕ) (r : ℕ) (found' : List ℕ) → Type 0
ChargeFromC ends prices total bands remainder = Answered billed (charge_verdict ends prices total bands remainder and_then accepted
    (bill_of ends prices total bands remainder))
