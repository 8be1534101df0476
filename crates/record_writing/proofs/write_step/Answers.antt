-- No byte is touched before the causes have found nothing; what they have passed is all that putting the record asks for (`step-whole`).
use Rattle.std.proofs.Common.{sym}
use Rattle.std.proofs.lemmas.Result.{err_from_is_err_and}
use Rattle.record_writing.proofs.WriteLaws.{writing-refused, writing-accepted, step-whole}
use Rattle.record_writing.proofs.write_step.Goals as goal

pub returns-in_err-step : goal.returns-in_err-step
returns-in_err-step c =
    let p = err_from_is_err_and c.from_residual.result c.from_residual.ensures.1 in
    rw (p.1, p.2) (writing-refused (sym c.in_err-step.ensures))

pub step-length-requires : goal.step-length-requires
step-length-requires c = step-whole c.args.width _ c.args.kind _ _ _ (sym c.in_ok-step.ensures)

pub returns : goal.returns
returns c = writing-accepted (sym c.in_ok-step.ensures) c.step-length.ensures
