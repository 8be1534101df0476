-- A head that passed says a count within the limits, so the length can be summed up.
use Rattle.std.proofs.Common.{sym}
use Rattle.std.proofs.lemmas.Result.{err_from_is_err_and}
use Rattle.model.proofs.Verdicts.{past, out}
use Rattle.record_heads.specs.Heads.{field_needs}
use Rattle.record_heads.proofs.HeadLaws.{field-head-says}
use Rattle.record_heads.proofs.field_length.Goals as goal

pub returns-in_err-field : goal.returns-in_err-field
unfolding field_needs
returns-in_err-field c =
    let p = err_from_is_err_and c.from_residual.result c.from_residual.ensures.1 in
    rw (p.1, p.2) (sym (out _ (sym c.in_err-field.ensures)))

pub field_bytes-requires : goal.field_bytes-requires
field_bytes-requires c = (field-head-says _ _ _ (sym c.in_ok-field.ensures)).few_cells

pub returns : goal.returns
unfolding field_needs
returns c = rw c.field_bytes.ensures (sym (past _ (sym c.in_ok-field.ensures)))
