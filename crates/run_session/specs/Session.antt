-- Document 01, "The board and the run": when a run ends, what a step prints and what follows it.
use Rattle.std.specs.Prelude.{ℕ, Bool, true, not, ◌||◌, List, eqb, Result}
use Rattle.model.specs.Causes.{Outcome, accepted, refused}
use Rattle.model.specs.Answers.{number}
use Rattle.model.specs.declared.Cause.{Cause}
use Rattle.model.specs.declared.Refusal.{Refusal}
use Rattle.model.specs.StepTaken.{taken_said}
use Rattle.model.specs.declared.Printed.{Printed}
use Rattle.run_lines.specs.Lines.{refusal_line, step_line, refused_step_line}

-- A refusal ends the run by causes 11 and 13 alone.
abbrev pub ends_by : ℕ → Bool
ends_by cause = eqb cause 11 || eqb cause 13

abbrev pub ends_run : Cause → Bool
ends_run c = ends_by (number c)

-- The only line of a refused mesh or field, by its letter.
abbrev pub refused_text : ℕ → Refusal → List ℕ
refused_text letter r = refusal_line letter (number r.cause) r.place

-- Step 0 is the first field: its total, and nothing that passed.
abbrev pub start_text : ℕ → List ℕ
start_text total = step_line 0 0 0 total 0

-- A step's line: its number and what is printed of it, or why it is refused.
abbrev pub step_text : ℕ → Outcome Printed → List ℕ
step_text step (accepted p) = step_line step p.entered p.gone p.total p.released
step_text step (refused cause place) = refused_step_line step cause place

abbrev pub step_taken_line : ℕ → (Result Printed Refusal) → List ℕ
step_taken_line step taken = step_text step (taken_said taken)

-- Whether another step may follow.
abbrev pub goes_on_after : Outcome Printed → Bool
goes_on_after (accepted p) = true
goes_on_after (refused cause place) = not (ends_by cause)

abbrev pub goes_on : Result Printed Refusal → Bool
goes_on taken = goes_on_after (taken_said taken)

-- The bytes of the longest line, and of all lines that are held before they are written.
abbrev pub line_bytes : ℕ
line_bytes = 105

abbrev pub lines_bytes : ℕ
lines_bytes = 4096
