-- Those of mesh and field, then those of the step.
use Rattle.std.proofs.Common.{sym, ◌∙◌}
use Rattle.std.proofs.lemmas.Result.{err_from_is_err_and}
use Rattle.model.specs.Causes.{step_tables}
use Rattle.model.proofs.Verdicts.{past, out}
use Rattle.model.proofs.Accepted.{few}
use Rattle.checks.proofs.tables_lent.Goals as goal

pub returns-in_err-field_lent : goal.returns-in_err-field_lent
returns-in_err-field_lent c = let p = err_from_is_err_and c.from_residual.result c.from_residual.ensures.1 in
    rw (p.1, p.2) (sym (out _ (sym c.in_err-field_lent.ensures)))

pub step_lent-requires : goal.step_lent-requires
step_lent-requires c = few _ _ (sym c.in_ok-field_lent.ensures)

pub returns : goal.returns
unfolding step_tables
returns c = c.step_lent.ensures ∙ sym (past _ (sym c.in_ok-field_lent.ensures))
