-- The line of a step is no longer than the longest line, so that it fits where there is room for one.
use Prim.Native.Nat.{ℕ, ◌≤◌}
use mathlib.Core.Path.{ap}
use native.Mathlib.Omega.{arith}
use lib.ListN.{length, length-append}
use Rattle.model.specs.Causes.{Outcome, accepted, refused}
use Rattle.model.specs.StepTaken.{taken_said}
use Rattle.model.specs.declared.Printed.{Printed}
use Rattle.text.specs.Lines.{space, newline}
use Rattle.text.proofs.Lines.{length-word, length-mark}
use Rattle.run_lines.specs.Lines.{Holds, letter_r, refusal_line, step_line, refused_step_line}
use Rattle.run_lines.specs.declared.Line.{Line}
use Rattle.run_session.specs.Session.{step_text, step_taken_line, line_bytes}
use Rattle.std.specs.Prelude.{Result}
use Rattle.model.specs.declared.Refusal.{Refusal}

text-short : (step : ℕ) (o : Outcome Printed) → length (step_text step o) ≤ line_bytes
unfolding step_line refused_step_line refusal_line
text-short step (accepted p) =
    simp length-append (omega (
      arith,
      length-word step space,
      length-word p.entered space,
      length-word p.gone space,
      length-word p.total space,
      length-word p.released newline,
    ))
text-short step (refused cause place) =
    simp length-append (omega (arith, length-word step space, length-mark letter_r, length-word cause space, length-word place newline))

pub line-short : (line : Line) (step : ℕ) (taken : Result Printed Refusal) → Holds line (step_taken_line step taken) → line.used ≤ line_bytes
line-short line step taken h = omega (arith, h.0.1, ap length h.1, text-short step (taken_said taken))
