-- `put_step`: the counted part of the next masses is the field that the step leaves, which a record of this width holds.
use Rattle.model.proofs.Parts.{part-long}
use Rattle.taking.proofs.StepLaws.{nexts-part}
use Rattle.lagoon_straight.proofs.Laws.{few_cells, put-asks, step-put}
use Rattle.lagoon_straight.proofs.put_step.Goals as goal

pub field_bytes-requires : goal.field_bytes-requires
field_bytes-requires c = few_cells c.step_in-answer.ensures c.in-Ok.is

pub slice_bounds-field-end : goal.slice_bounds-field-end
slice_bounds-field-end c = (nexts-part c.step_in-answer.ensures c.in-Ok.is).fits

pub slice_bounds-field-end-2 : goal.slice_bounds-field-end-2
slice_bounds-field-end-2 c = part-long (nexts-part c.step_in-answer.ensures c.in-Ok.is)

pub field-requires : goal.field-requires
field-requires c =
    put-asks c.step_in-answer.ensures c.in-Ok.is c.args.width c.requires c.field_bytes.ensures c.args.bytes.now c.if-bytes-field_bytes.false

pub returns : goal.returns
returns c =
    step-put c.step_in-answer.ensures c.in-Ok.is c.args.width c.requires c.field_bytes.ensures c.args.bytes.now c.if-bytes-field_bytes.false c.field.ensures
