-- The scan for 3: fine up to the cell it has come to.
use Rattle.std.proofs.Common.{◌≡◌, get_or}
use Rattle.model.specs.Causes.{fine, each, volume_fits}
use Rattle.check_mesh.proofs.volumes_good.Given as goal

abbrev pub invariant-loop-c : goal.invariant-loop-c
invariant-loop-c l = each 3 l.c (λ k. volume_fits l.most (get_or l.volumes k 0)) ≡ fine
