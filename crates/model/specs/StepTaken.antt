-- Document 01, "The board and the run", and document 02's S-6: what is printed of a step, or why it is refused.
use Rattle.model.specs.Causes.{Outcome, accepted}
use Rattle.model.specs.Answers.{told}
use Rattle.model.specs.declared.Printed.{Printed}
use Rattle.std.specs.Prelude.{Result, Ok, Err}
use Rattle.model.specs.declared.Refusal.{Refusal}

abbrev pub taken_said : Result Printed Refusal → Outcome Printed
taken_said (Ok p) = accepted p
taken_said (Err r) = told r
