use borrow.Author.Rules.{rules}
use lib.ListN.{length}
use Rattle.lagoon.proofs.Small.{number_fits}
use Rattle.lagoon.proofs.Stages.{host-answered}
use Rattle.lagoon_step.proofs.lagoon_step.Statement.{statement}
use Rattle.lagoon_step.proofs.lagoon_step.Tie as tie

answer-number-requires : tie.Need-answer_number-requires
answer-number-requires c κs =
    let s = c.before.before.before.before.before.before.before.before in
    rw c.before.before.on_records-answer.ensures.answer (number_fits s.args.mesh.now s.args.field.now s.args.step.now
    (length s.args.next.now))

returns : tie.Need-returns
returns c = host-answered c.before.before.before.on_records-answer.ensures c.answer_number.ensures

pub lagoon_step_spec : {M : Type 1} → statement M
lagoon_step_spec =
    tie.close
    (tie.spec (search rules) answer-number-requires (search rules) returns)
