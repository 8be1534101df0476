use borrow.Author.Rules.{rules}
use Rattle.host_answer.proofs.Answers.{fits-as}
use Rattle.host_answer.proofs.Small.{small-giving}
use Rattle.host_read_promises.proofs.WriteSmall.{step-write-small}
use Rattle.host_read_promises.proofs.Writers.{step-named}
use Rattle.host_write.proofs.lagoon_write_step.Statement.{statement}
use Rattle.host_write.proofs.lagoon_write_step.Tie as tie

answered-requires : tie.Need-answered-requires
answered-requires c κs = fits-as c.before.before.before.write_step-answer.ensures.answer (small-giving _ (step-write-small _ _ _ _ _ _ _))

returns : tie.Need-returns
returns c =
    let d = c.before.before.before.before.before.before in
    step-named d.before.before.before.width_of.ensures _ d.before.before.kind_named.ensures _ _ _ d.write_step-answer.ensures
    c.before.before.answered.ensures

pub lagoon_write_step_spec : {M : Type 1} → statement M
lagoon_write_step_spec = tie.close (tie.spec (search rules) (search rules) (search rules) answered-requires (search rules) (search rules) returns)
