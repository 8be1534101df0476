use borrow.Author.Rules.{rules}
use Rattle.model.specs.Calls.{plain}
use Rattle.host_answer.proofs.Answers.{fits-as}
use Rattle.host_answer.proofs.Tables.{plain-answer-small}
use Rattle.host_answer.proofs.Steps.{step-from-c}
use Rattle.host_tables.proofs.lagoon_table_plain_step.Statement.{statement}
use Rattle.host_tables.proofs.lagoon_table_plain_step.Tie as tie

abbrev called : tie.After-slice_known-5-1 → tie.After-step-answer
called c = c.before.before.before.before.before

answered-requires : tie.Need-answered-requires
answered-requires c κs = fits-as (called c.before).step-answer.ensures.answer (plain-answer-small _ _ _)

returns : tie.Need-returns
returns c =
    let h = (called c.before.before.before.before).step-answer.ensures in
    step-from-c c.before.before.answered.ensures plain h.answer h.next_masses h.moved_masses h.work_after

pub lagoon_table_plain_step_spec : {M : Type 1} → statement M
lagoon_table_plain_step_spec =
    tie.close
    (tie.spec
    (search rules)
    answered-requires
    (search rules)
    (search rules)
    (search rules)
    (search rules)
    returns)
