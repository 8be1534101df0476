use borrow.Author.Rules.{rules}
use Rattle.host_answer.proofs.Answers.{fits-as}
use Rattle.host_answer.proofs.Tables.{judged-answer-small}
use Rattle.host_answer.proofs.Steps.{judge-from-c}
use Rattle.host_tables.proofs.lagoon_table_judge.Statement.{statement}
use Rattle.host_tables.proofs.lagoon_table_judge.Tie as tie

answered-requires : tie.Need-answered-requires
answered-requires c κs = fits-as c.before.before.before.judge-answer.ensures.answer (judged-answer-small _ _ _)

returns : tie.Need-returns
returns c =
    let h = c.before.before.before.before.before.before.judge-answer.ensures in
    judge-from-c c.before.before.answered.ensures h.answer h.next_masses

pub lagoon_table_judge_spec : {M : Type 1} → statement M
lagoon_table_judge_spec = tie.close (tie.spec (search rules) answered-requires (search rules) (search rules) returns)
