use native.Mathlib.Omega.{arith}
use borrow.Author.Rules.{rules}
use Rattle.host_answer.proofs.Answers.{fits-as}
use Rattle.host_period_promises.proofs.Calls.{return-from-c}
use Rattle.host_period_promises.proofs.Small.{return-small}
use Rattle.host_period.proofs.lagoon_give_back.Statement.{statement}
use Rattle.host_period.proofs.lagoon_give_back.Tie as tie

answer-number-requires : tie.Need-answer_number-requires
answer-number-requires c κs = let s = c.before.before.before.before.before.before.before in fits-as
    c.before.before.give_back-answer.ensures.answer (return-small _ _ _ (omega (arith, s.ranges.name.fits)) _ _)

returns : tie.Need-returns
returns c = return-from-c c.answer_number.ensures c.before.before.before.give_back-answer.ensures

pub lagoon_give_back_spec : {M : Type 1} → statement M
lagoon_give_back_spec = tie.close (tie.spec (search rules) answer-number-requires (search rules) returns)
