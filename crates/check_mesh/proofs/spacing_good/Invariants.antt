-- The scan for 5: fine up to the face it has come to.
use Rattle.std.proofs.Common.{◌≡◌, get_or}
use Rattle.model.specs.Causes.{fine, each, spacing_fit}
use Rattle.check_mesh.proofs.spacing_good.Given as goal

abbrev pub invariant-loop-f : goal.invariant-loop-f
invariant-loop-f l = each 5 l.f (λ k. spacing_fit l.most (get_or l.seconds k 0) (get_or l.shares k 0) (get_or l.reaches k 0)) ≡ fine
