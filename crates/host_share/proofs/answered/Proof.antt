use mathlib.Core.Path.{ap}
use borrow.Author.Rules.{rules}
use Rattle.survey.specs.Survey.{share_by}
use Rattle.host_answer.specs.Found.{alone}
use Rattle.host_answer.proofs.Answers.{refusal-of, answered-refused, answered-found}
use Rattle.host_share.proofs.answered.Statement.{statement}
use Rattle.host_share.proofs.answered.Tie as tie

number-of-requires : tie.Need-number_of-requires
number-of-requires c κs = refusal-of (ap share_by c.in-Err.is) c.before.before.requires

returns : tie.Need-returns-in-Ok
returns c = answered-found alone _ (ap share_by c.before.before.before.before.in-Ok.is) c.before.before.fill1.ensures

returns-2 : tie.Need-returns-in-Err
returns-2 c = answered-refused alone _ (ap share_by c.before.in-Err.is) c.number_of.ensures

pub answered_spec : {M : Type 1} → statement M
answered_spec = tie.close (tie.spec (search rules) (search rules) (search rules) number-of-requires (search rules) returns returns-2)
