-- The scan for 4: fine up to the face it has come to.
use Rattle.std.proofs.Common.{◌≡◌, get_or}
use Rattle.model.specs.Causes.{fine, each, ends_fit}
use Rattle.check_mesh.proofs.ends_good.Given as goal

abbrev pub invariant-loop-f : goal.invariant-loop-f
invariant-loop-f l = each 4 l.f (λ k. ends_fit l.cells (get_or l.firsts k 0) (get_or l.seconds k 0)) ≡ fine
