-- The tables stay sums over the faces passed.
use Rattle.std.proofs.Common.{◌≡◌, ◌+◌, get_or, pos}
use Rattle.lists.specs.Fold.{sum}
use Rattle.lists.specs.Table.{table}
use Rattle.model.specs.Mesh.{max_cells, entering, leaving}
use Rattle.model.specs.Causes.{faces_only}
use Rattle.check_flows.proofs.gather.Given as goal

abbrev pub invariant-loop-f : goal.invariant-loop-f
invariant-loop-f l =
    (l.inflow ≡ table (max_cells + 1) (λ c. sum l.f (entering (faces_only l.faces l.firsts l.seconds) (λ k. get_or l.fluxes k (pos 0)) c)))
    × (l.outflow ≡ table (max_cells + 1) (λ c. sum l.f (leaving (faces_only l.faces l.firsts l.seconds) (λ k. get_or l.fluxes k (pos 0)) c)))
