-- No byte is touched before the causes have found nothing; what they have passed is all that putting the record asks for (`field-whole`).
use Rattle.std.proofs.Common.{sym}
use Rattle.std.proofs.lemmas.Result.{err_from_is_err_and}
use Rattle.record_writing.proofs.WriteLaws.{writing-refused, writing-accepted, field-whole}
use Rattle.record_writing.proofs.write_field.Goals as goal

pub returns-in_err-field : goal.returns-in_err-field
returns-in_err-field c =
    let p = err_from_is_err_and c.from_residual.result c.from_residual.ensures.1 in
    rw (p.1, p.2) (writing-refused (sym c.in_err-field.ensures))

pub field-length-requires : goal.field-length-requires
field-length-requires c = field-whole _ _ _ (sym c.in_ok-field.ensures)

pub returns : goal.returns
returns c = writing-accepted (sym c.in_ok-field.ensures) c.field-length.ensures
