use borrow.Author.Rules.{rules}
use Rattle.host_answer.proofs.Answers.{fits-as}
use Rattle.host_period_promises.proofs.Calls.{charge-from-c}
use Rattle.host_period_promises.proofs.Small.{charge-small}
use Rattle.host_period.proofs.lagoon_charge.Statement.{statement}
use Rattle.host_period.proofs.lagoon_charge.Tie as tie

charged-requires : tie.Need-charged-requires
charged-requires c κs = fits-as c.before.charge-answer.ensures (charge-small _ _ _ _ _)

returns : tie.Need-returns
returns c = charge-from-c _ _ _ _ _ c.before.before.before.before.charge-answer.ensures c.before.before.charged.ensures

pub lagoon_charge_spec : {M : Type 1} → statement M
lagoon_charge_spec = tie.close (tie.spec (search rules) charged-requires (search rules) returns)
