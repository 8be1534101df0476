-- The head first; where it passes, what it says of the cells and the kind is what judging the body asks for.
use Rattle.std.proofs.Common.{sym, ◌∙◌}
use Rattle.std.proofs.lemmas.Result.{err_from_is_err_and}
use Rattle.model.proofs.Verdicts.{out, past}
use Rattle.record_heads.proofs.HeadLaws.{field-head-says}
use Rattle.record_reading.specs.Reading.{field_read}
use Rattle.record_reading.proofs.verdicts.field.Goals as goal

pub returns-in_err-field : goal.returns-in_err-field
unfolding field_read
returns-in_err-field c =
    let p = err_from_is_err_and c.from_residual.result c.from_residual.ensures.1 in
    rw (p.1, p.2) (sym (out _ (sym c.in_err-field.ensures)))

pub field_body-requires : goal.field_body-requires
field_body-requires c = let h = field-head-says _ _ _ (sym c.in_ok-field.ensures) in (h.few_cells, sym h.kind)

pub returns : goal.returns
unfolding field_read
returns c = c.field_body.ensures ∙ sym (past _ (sym c.in_ok-field.ensures))
