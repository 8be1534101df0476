-- The labels, then each part.
use Rattle.std.proofs.Common.{sym, ◌∙◌}
use Rattle.std.proofs.lemmas.Result.{err_from_is_err_and}
use Rattle.model.proofs.Verdicts.{out, past}
use Rattle.cutting_causes.proofs.Groups.{parts_last}
use Rattle.cutting_causes.proofs.labels_fit.Goals as goal

pub returns-in_err-labels_good : goal.returns-in_err-labels_good
returns-in_err-labels_good c =
    let p = err_from_is_err_and c.from_residual.result c.from_residual.ensures.1 in
    rw (p.1, p.2) (sym (sym (parts_last _ _) ∙ out _ (out _ (sym c.in_err-labels_good.ensures))))

pub returns-in_err-need : goal.returns-in_err-need
returns-in_err-need c =
    let p = err_from_is_err_and c.from_residual-in_err-need.result c.from_residual-in_err-need.ensures.1 in
    rw (p.1, p.2) (sym (sym (parts_last _ _) ∙ out _ (past _ (sym c.in_ok-labels_good.ensures) ∙ (sym (rw c.count_cells.ensures at c.in_err-need.ensures)))))

pub returns : goal.returns
returns c =
    rw (c.need-2.ensures, c.count_cells-2.ensures)
    (sym (sym (parts_last _ _) ∙ past _ (past _ (sym c.in_ok-labels_good.ensures) ∙ (sym (rw c.count_cells.ensures at c.in_ok-need.ensures)))))
