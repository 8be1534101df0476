-- The scan for 18: fine up to the cell it has come to.
use Rattle.std.proofs.Common.{◌≡◌, get_or}
use Rattle.model.specs.Causes.{fine, each, raised_fit}
use Rattle.checks.proofs.raised.values.Given as goal

abbrev pub invariant-loop-c : goal.invariant-loop-c
invariant-loop-c l = each 18 l.c (λ k. raised_fit (get_or l.volumes k 0) (get_or l.masses k 0) (get_or l.releases k 0)) ≡ fine
