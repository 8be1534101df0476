-- The causes of the cells first; the sum of the masses of a field that is accepted fits.
use Rattle.std.proofs.Common.{sym, ap, ◌∙◌}
use Rattle.std.proofs.lemmas.Result.{err_from_is_err_and}
use Rattle.model.specs.Causes.{accepted}
use Rattle.model.proofs.Verdicts.{past, out}
use Rattle.checks.proofs.Laws.{sum-asks}
use Rattle.checks.proofs.total.Goals as goal

pub returns-in_err-check_cells : goal.returns-in_err-check_cells
returns-in_err-check_cells c = let p = err_from_is_err_and c.from_residual.result c.from_residual.ensures.1 in
    rw (p.1, p.2) (sym (out _ (sym c.in_err-check_cells.ensures)))

pub sum_of-requires : goal.sum_of-requires
sum_of-requires c = sum-asks _ _ (sym c.in_ok-check_cells.ensures)

pub returns : goal.returns
returns c = ap accepted c.sum_of.ensures ∙ sym (past _ (sym c.in_ok-check_cells.ensures))
