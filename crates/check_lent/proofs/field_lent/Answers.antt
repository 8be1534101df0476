-- The counts and the mesh tables, then the field.
use Rattle.std.proofs.Common.{sym, ◌∙◌}
use Rattle.std.proofs.lemmas.Result.{err_from_is_err_and}
use Rattle.model.specs.Causes.{field_table}
use Rattle.model.proofs.Verdicts.{past, out}
use Rattle.check_lent.proofs.field_lent.Goals as goal

pub returns-in_err-mesh_lent : goal.returns-in_err-mesh_lent
returns-in_err-mesh_lent c = let p = err_from_is_err_and c.from_residual.result c.from_residual.ensures.1 in
    rw (p.1, p.2) (sym (out _ (sym c.in_err-mesh_lent.ensures)))

pub returns : goal.returns
unfolding field_table
returns c = c.long.ensures ∙ sym (past _ (sym c.in_ok-mesh_lent.ensures))
