-- Document 01, "One step", its last sentence: what the total of a field answers.
use Rattle.std.specs.Prelude.{ℕ, Result, Ok, Err}
use Rattle.model.specs.Causes.{Outcome, accepted}
use Rattle.model.specs.Answers.{told}
use Rattle.model.specs.declared.Refusal.{Refusal}

-- Document 01, "What form each place needs", on answers that are enums.
abbrev pub total_said : Result ℕ Refusal → Outcome ℕ
total_said (Ok n) = accepted n
total_said (Err r) = told r
