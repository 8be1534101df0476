-- The lengths first; the values of a mesh whose tables are long enough.
use Rattle.std.proofs.Common.{sym, ◌∙◌}
use Rattle.std.proofs.lemmas.Result.{err_from_is_err_and}
use Rattle.model.specs.Causes.{mesh_verdict}
use Rattle.model.proofs.Verdicts.{past, out}
use Rattle.model.proofs.Accepted.{mesh-long}
use Rattle.checks.proofs.check_mesh.Goals as goal

pub returns-in_err-mesh_lent : goal.returns-in_err-mesh_lent
unfolding mesh_verdict
returns-in_err-mesh_lent c = let p = err_from_is_err_and c.from_residual.result c.from_residual.ensures.1 in
    rw (p.1, p.2) (sym (out _ (sym c.in_err-mesh_lent.ensures)))

pub values-requires : goal.values-requires
values-requires c = mesh-long _ (sym c.in_ok-mesh_lent.ensures)

pub returns : goal.returns
unfolding mesh_verdict
returns c = c.values.ensures ∙ sym (past _ (sym c.in_ok-mesh_lent.ensures))
