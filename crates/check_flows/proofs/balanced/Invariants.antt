-- The scan for 9, on sums that are there: fine up to the cell it has come to.
use Rattle.std.proofs.Common.{◌≡◌, eqb, get_or}
use Rattle.model.specs.Causes.{fine, each}
use Rattle.check_flows.proofs.balanced.Given as goal

abbrev pub invariant-loop-c : goal.invariant-loop-c
invariant-loop-c l = each 9 l.c (λ k. eqb (get_or l.inflow k 0) (get_or l.outflow k 0)) ≡ fine
