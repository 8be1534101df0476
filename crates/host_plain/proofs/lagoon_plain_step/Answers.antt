-- The number of what the step is refused for, which fits; else that of what is fine.
use Rattle.host_record_promises.proofs.Plain.{number_fits, refused-number, stepped-number}
use Rattle.host_plain.proofs.lagoon_plain_step.Goals as goal

pub number_of-requires : goal.number_of-requires
number_of-requires c =
    number_fits c.args.mesh.now c.args.field.now c.args.step.now c.args.next.now c.on_records-a.ensures c.in-Err.is

pub returns-in-Err : goal.returns-in-Err
returns-in-Err c =
    refused-number c.args.mesh.now c.args.field.now c.args.step.now c.args.next.now c.on_records-a.ensures c.in-Err.is c.number_of.ensures

pub returns-in-Ok : goal.returns-in-Ok
returns-in-Ok c = stepped-number c.args.mesh.now c.args.field.now c.args.step.now c.args.next.now c.on_records-a.ensures c.in-Ok.is
