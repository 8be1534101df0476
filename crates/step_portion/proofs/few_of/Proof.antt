use borrow.Author.Rules.{rules}
use Rattle.step_portion.proofs.Laws.{part-fits}
use Rattle.step_portion.proofs.few_of.Statement.{statement}
use Rattle.step_portion.proofs.few_of.Tie as tie

pub few_of_spec : {M : Type 1} → statement M
few_of_spec = tie.close (tie.spec (search rules) (search rules) (search rules) (λ c. part-fits c.before.args.g))
