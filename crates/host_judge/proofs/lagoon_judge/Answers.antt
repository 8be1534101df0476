-- What the judging answers is small.
use Rattle.host_record_promises.proofs.Judge.{number_fits}
use Rattle.host_judge.proofs.lagoon_judge.Goals as goal

pub answered-requires : goal.answered-requires
answered-requires c =
    number_fits c.args.mesh.now c.args.field.now c.args.step.now c.args.claim.now c.args.next.now c.on_records-answer.ensures
