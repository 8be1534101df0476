use borrow.Author.Rules.{rules}
use Rattle.host_answer.proofs.Answers.{fits-as}
use Rattle.host_period_promises.proofs.Calls.{add-from-c}
use Rattle.host_period_promises.proofs.Small.{add_small}
use Rattle.host_period.proofs.lagoon_add.Statement.{statement}
use Rattle.host_period.proofs.lagoon_add.Tie as tie

answer-number-requires : tie.Need-answer_number-requires
answer-number-requires c κs = fits-as c.before.before.add-answer.ensures.answer (add_small _ _ _ _)

returns : tie.Need-returns
returns c = add-from-c c.answer_number.ensures c.before.before.before.add-answer.ensures

pub lagoon_add_spec : {M : Type 1} → statement M
lagoon_add_spec = tie.close (tie.spec (search rules) answer-number-requires (search rules) returns)
