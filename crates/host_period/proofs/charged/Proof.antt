use mathlib.Core.Path.{ap}
use borrow.Author.Rules.{rules}
use Rattle.charge.specs.Answers.{charge_said}
use Rattle.host_period_promises.specs.Period.{billed}
use Rattle.host_answer.proofs.Answers.{refusal-of, answered-refused, answered-found}
use Rattle.host_period.proofs.charged.Statement.{statement}
use Rattle.host_period.proofs.charged.Tie as tie

number-of-requires : tie.Need-number_of-requires
number-of-requires c κs = refusal-of (ap charge_said c.in-Err.is) c.before.before.requires

returns : tie.Need-returns-in-Ok
returns c = answered-found billed _ (ap charge_said c.before.before.before.before.in-Ok.is) c.before.before.fill2.ensures

returns-2 : tie.Need-returns-in-Err
returns-2 c = answered-refused billed _ (ap charge_said c.before.in-Err.is) c.number_of.ensures

pub charged_spec : {M : Type 1} → statement M
charged_spec = tie.close (tie.spec (search rules) (search rules) (search rules) number-of-requires (search rules) returns returns-2)
