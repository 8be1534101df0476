-- Length, then the table: the causes of the definition in its order, by the head's kind.
use Rattle.std.proofs.Common.{sym, [], ◌∷◌, ◌∙◌}
use Rattle.std.proofs.lemmas.Result.{err_from_is_err_and}
use Rattle.model.proofs.Verdicts.{past, refused-at}
use Rattle.record_reading.specs.Reading.{field_body_verdict}
use Rattle.record_reading.proofs.verdicts.field_body.Goals as goal

pub returns-in_err-need : goal.returns-in_err-need
unfolding field_body_verdict
returns-in_err-need c =
    let p = err_from_is_err_and c.from_residual.result c.from_residual.ensures.1 in
    rw (p.1, p.2) (sym (refused-at [] (_ ∷ []) tt (sym (rw (c.field_bytes.ensures, c.requires.1) at c.in_err-need.ensures))))

pub returns : goal.returns
unfolding field_body_verdict
returns c = c.long.ensures ∙ sym (past _ (sym (rw (c.field_bytes.ensures, c.requires.1) at c.in_ok-need.ensures)))
