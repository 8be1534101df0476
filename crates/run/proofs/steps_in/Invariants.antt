-- What is held lies in the buffer, what is unwritten in the lines; the step number stops the loop.
use Rattle.std.proofs.Common.{◌≤◌, ◌≡◌, length}
use Rattle.run_session.specs.Session.{lines_bytes}
use Rattle.run.proofs.steps_in.Given as goal

abbrev pub invariant-loop-step : goal.invariant-loop-step
invariant-loop-step l =
    (length l.buffer ≡ length l.initial.buffer) × (l.from ≤ l.to) × (l.to ≤ length l.buffer) × (l.unwritten ≤ lines_bytes)
