-- The digest stays below the prime.
use Rattle.std.proofs.Common.{◌<◌}
use Rattle.bench_step.specs.Bounds.{prime}
use Rattle.bench_step.proofs.text.digest_masses.Given as goal

abbrev pub invariant-loop-m : goal.invariant-loop-m
invariant-loop-m l = l.digest < prime
