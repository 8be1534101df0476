-- Both cases of the answer, each by its law.
use mathlib.Core.Path.{ap}
use borrow.Author.Rules.{rules}
use Rattle.cutting.specs.Promise.{cut_said}
use Rattle.host_answer.proofs.Answers.{refusal-of, answered-refused, answered-found}
use Rattle.host_parts.specs.Parts.{counted}
use Rattle.host_parts.proofs.answered.Statement.{statement}
use Rattle.host_parts.proofs.answered.Tie as tie

number-of-requires : tie.Need-number_of-requires
number-of-requires c κs = refusal-of (ap cut_said c.in-Err.is) c.before.before.requires

returns : tie.Need-returns-in-Ok
returns c = answered-found counted _ (ap cut_said c.before.before.before.before.in-Ok.is) c.before.before.fill4.ensures

returns-2 : tie.Need-returns-in-Err
returns-2 c = answered-refused counted _ (ap cut_said c.before.in-Err.is) c.number_of.ensures

pub answered_spec : {M : Type 1} → statement M
answered_spec = tie.close (tie.spec (search rules) (search rules) (search rules) number-of-requires (search rules) returns returns-2)
