-- The digest stays below the prime.
use Rattle.std.proofs.Common.{◌<◌}
use Rattle.bench_step.specs.Bounds.{prime}
use Rattle.bench_step.proofs.text.digest.Given as goal

abbrev pub invariant-loop-x : goal.invariant-loop-x
invariant-loop-x l = l.digest < prime
