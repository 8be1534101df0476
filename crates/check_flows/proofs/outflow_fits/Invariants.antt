-- The scan for 10, on sums that are there: fine up to the cell it has come to.
use Rattle.std.proofs.Common.{◌≡◌, leb, get_or}
use Rattle.model.specs.Causes.{fine, each}
use Rattle.check_flows.proofs.outflow_fits.Given as goal

abbrev pub invariant-loop-c : goal.invariant-loop-c
invariant-loop-c l = each 10 l.c (λ k. leb (get_or l.outflow k 0) (get_or l.volumes k 0)) ≡ fine
