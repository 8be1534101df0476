-- Each face that is passed meets 4 and 5 both.
use Rattle.std.proofs.Common.{◌≡◌, get_or}
use Rattle.model.specs.Causes.{fine, each, ends_fit, spacing_fit}
use Rattle.check_mesh.proofs.faces_fit.Given as goal

abbrev pub invariant-loop-f : goal.invariant-loop-f
invariant-loop-f l =
    (each 4 l.f (λ k. ends_fit l.cells (get_or l.firsts k 0) (get_or l.seconds k 0)) ≡ fine)
    × (each 5 l.f (λ k. spacing_fit l.most (get_or l.seconds k 0) (get_or l.shares k 0) (get_or l.reaches k 0)) ≡ fine)
