use borrow.Author.Rules.{rules}
use Rattle.host_answer.proofs.Answers.{fits-as}
use Rattle.host_read_promises.proofs.Readers.{step-named}
use Rattle.host_read_promises.proofs.ReadSmall.{step-read-small}
use Rattle.host_read.proofs.lagoon_read_step.Statement.{statement}
use Rattle.host_read.proofs.lagoon_read_step.Tie as tie

abbrev called : tie.After-slice_known-5-1 → tie.After-read_step-answer
called c = c.before.before.before.before.before

step-answered-requires : tie.Need-step_answered-requires
step-answered-requires c κs = fits-as (called c.before).read_step-answer.ensures.answer (step-read-small _ _ _ _ _ _ _ _)

returns : tie.Need-returns
returns c =
    let d = called c.before.before.before.before in
    step-named d.before.before.before.before.width_named-kinds.ensures d.read_step-answer.ensures c.before.before.step_answered.ensures

pub lagoon_read_step_spec : {M : Type 1} → statement M
lagoon_read_step_spec =
    tie.close
    (tie.spec
    (search rules)
    (search rules)
    step-answered-requires
    (search rules)
    (search rules)
    (search rules)
    (search rules)
    returns)
