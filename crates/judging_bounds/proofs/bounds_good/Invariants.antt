-- A scan for the first cell that is out of bounds.
use Rattle.std.proofs.Common.{◌≡◌}
use Rattle.model.specs.Causes.{fine, each}
use Rattle.judging_bounds.specs.Bounds.{bounds_at, entry}
use Rattle.judging_bounds.proofs.bounds_good.Given as goal

abbrev pub invariant-loop-c : goal.invariant-loop-c
invariant-loop-c l = each 22 l.c (bounds_at l.volumes l.masses l.releases l.work (entry l.enters) (entry l.leaves)) ≡ fine
