-- What is read stays below the ceiling.
use Rattle.std.proofs.Common.{◌≤◌}
use Rattle.bench_step.specs.Bounds.{max_argument}
use Rattle.bench_step.proofs.text.number.Given as goal

abbrev pub invariant-loop-b : goal.invariant-loop-b
invariant-loop-b l = l.x ≤ max_argument
