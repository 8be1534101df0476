use mathlib.Core.Path.{ap}
use borrow.Author.Rules.{rules}
use Rattle.transport.specs.Promise.{step_said}
use Rattle.host_answer.specs.Steps.{crossed}
use Rattle.host_answer.proofs.Answers.{refusal-of, answered-refused, answered-found}
use Rattle.host_tables.proofs.answered.Statement.{statement}
use Rattle.host_tables.proofs.answered.Tie as tie

number-of-requires : tie.Need-number_of-requires
number-of-requires c κs = refusal-of (ap step_said c.in-Err.is) c.before.before.requires

returns : tie.Need-returns-in-Ok
returns c = answered-found crossed _ (ap step_said c.before.before.before.before.in-Ok.is) c.before.before.fill3.ensures

returns-2 : tie.Need-returns-in-Err
returns-2 c = answered-refused crossed _ (ap step_said c.before.in-Err.is) c.number_of.ensures

pub answered_spec : {M : Type 1} → statement M
answered_spec = tie.close (tie.spec (search rules) (search rules) (search rules) number-of-requires (search rules) returns returns-2)
