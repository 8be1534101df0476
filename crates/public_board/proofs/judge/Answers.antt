-- What is lent, then the table of the marks, then all of the field, then the marks.
use Rattle.std.proofs.Common.{sym, ◌∙◌}
use Rattle.std.proofs.lemmas.Result.{err_from_is_err_and}
use Rattle.model.proofs.Verdicts.{out, past}
use Rattle.public_board.proofs.Laws.{judged-out, judged-on}
use Rattle.public_board.proofs.judge.Goals as goal

pub returns-in_err-field_lent : goal.returns-in_err-field_lent
returns-in_err-field_lent c =
    let p = err_from_is_err_and c.from_residual.result c.from_residual.ensures.1 in
    rw (p.1, p.2) (sym (judged-out _ _ _ _ (sym c.in_err-field_lent.ensures)))

pub returns-in_err-marks_long : goal.returns-in_err-marks_long
returns-in_err-marks_long c =
    let p = err_from_is_err_and c.from_residual-in_err-marks_long.result c.from_residual-in_err-marks_long.ensures.1 in
    rw (p.1, p.2) (sym (judged-on _ _ _ _ (sym c.in_ok-field_lent.ensures) ∙ out _ (out _ (sym c.in_err-marks_long.ensures))))

pub returns-in_err-check_cells : goal.returns-in_err-check_cells
returns-in_err-check_cells c =
    let p = err_from_is_err_and c.from_residual-in_err-check_cells.result c.from_residual-in_err-check_cells.ensures.1 in
    rw (p.1, p.2) (sym (judged-on _ _ _ _ (sym c.in_ok-field_lent.ensures) ∙ out _ (past _ (sym c.in_ok-marks_long.ensures) ∙ sym c.in_err-check_cells.ensures)))

pub returns : goal.returns
returns c =
    c.marks_good.ensures
    ∙ sym (judged-on _ _ _ _ (sym c.in_ok-field_lent.ensures) ∙ past _ (past _ (sym c.in_ok-marks_long.ensures) ∙ sym c.in_ok-check_cells.ensures))
