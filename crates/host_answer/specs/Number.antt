-- Document 01, "Tables lent to a step": the one 64-bit number that a call from C answers, 0 or 4,294,967,296 times the cause plus the place.
use Rattle.std.specs.Prelude.{ℕ, ◌+◌, ◌*◌}
use Rattle.model.specs.Causes.{Outcome, accepted, refused}

abbrev pub cause_step : ℕ
cause_step = 4294967296

-- of a refusal: the cause in its upper 32 bits, the place in its lower
abbrev pub refusal_number : (cause place : ℕ) → ℕ
refusal_number cause place = cause_step * cause + place

abbrev pub number_of : {A : Type 0} → Outcome A → ℕ
number_of (accepted _) = 0
number_of (refused cause place) = refusal_number cause place
