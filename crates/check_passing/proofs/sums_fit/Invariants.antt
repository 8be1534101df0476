-- Each cell that is passed has equal sums, the outflow at most its volume.
use Rattle.std.proofs.Common.{ℕ, ◌<◌, get_or}
use Rattle.check_passing.specs.Passing.{SumFits}
use Rattle.check_passing.proofs.sums_fit.Given as goal

abbrev pub invariant-loop-c : goal.invariant-loop-c
invariant-loop-c l = (k : ℕ) → k < l.c → SumFits (get_or l.volumes k 0) (get_or l.sums k 0)
