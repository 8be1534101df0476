use native.Mathlib.Omega.{arith}
use borrow.Author.Rules.{rules}
use Rattle.host_answer.proofs.Answers.{fits-as}
use Rattle.host_period_promises.proofs.Calls.{drop-from-c}
use Rattle.host_period_promises.proofs.Small.{drop-small}
use Rattle.host_period.proofs.lagoon_drop.Statement.{statement}
use Rattle.host_period.proofs.lagoon_drop.Tie as tie

answer-number-requires : tie.Need-answer_number-requires
answer-number-requires c κs = let s = c.before.before.before.before.before in fits-as c.before.before.drop-answer.ensures.answer
    (drop-small _ _ _ (omega (arith, s.ranges.name.fits)))

returns : tie.Need-returns
returns c = drop-from-c c.answer_number.ensures c.before.before.before.drop-answer.ensures

pub lagoon_drop_spec : {M : Type 1} → statement M
lagoon_drop_spec = tie.close (tie.spec (search rules) answer-number-requires (search rules) returns)
