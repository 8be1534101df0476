-- The season stays below the prime.
use Rattle.std.proofs.Common.{◌<◌}
use Rattle.bench_step.specs.Bounds.{prime}
use Rattle.bench_step.proofs.repeat.Given as goal

abbrev pub invariant-loop-i : goal.invariant-loop-i
invariant-loop-i l = l.season < prime
