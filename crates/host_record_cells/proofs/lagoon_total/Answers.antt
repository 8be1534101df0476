-- The number of what the records are refused for, which fits; else the total.
use Rattle.host_answer.proofs.Answers.{refusal-of}
use Rattle.host_answer.proofs.Small.{small-number}
use Rattle.host_tested.proofs.Small.{field-tested-small}
use Rattle.host_taking.proofs.Held.{untaken}
use Rattle.host_record_promises.proofs.Totals.{total-untaken, total-taken}
use Rattle.host_record_cells.proofs.lagoon_total.Goals as goal

pub number_of-requires : goal.number_of-requires
number_of-requires c =
    refusal-of (untaken c.args.mesh.now c.args.field.now c.take_cells-a.ensures.answer c.in-Err.is)
    (small-number _ (field-tested-small c.args.mesh.now c.args.field.now))

pub returns-in-Err : goal.returns-in-Err
returns-in-Err c =
    total-untaken c.args.mesh.now c.args.field.now c.take_cells-a.ensures.answer c.args.found.now c.in-Err.is c.number_of.ensures

pub returns-in-Ok : goal.returns-in-Ok
returns-in-Ok c =
    total-taken c.args.mesh.now c.args.field.now c.take_cells-a.ensures.answer c.args.found.now c.in-Ok.is c.fill1.ensures
