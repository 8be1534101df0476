use mathlib.Core.Path.{ap}
use borrow.Author.Rules.{rules}
use Rattle.record_reading.specs.Answers.{step_read_said}
use Rattle.host_answer.specs.Found.{alone}
use Rattle.host_answer.proofs.Answers.{refusal-of, answered-refused, answered-found}
use Rattle.host_read.proofs.step_answered.Statement.{statement}
use Rattle.host_read.proofs.step_answered.Tie as tie

number-of-requires : tie.Need-number_of-requires
number-of-requires c κs = refusal-of (ap (step_read_said c.before.before.args.width) c.in-Err.is)
    c.before.before.requires

returns : tie.Need-returns-in-Ok
returns c = answered-found alone _ (ap (step_read_said c.before.before.before.before.before.before.before.args.width)
    c.before.before.before.before.before.in-Ok.is) (rw c.before.before.before.kind_number.ensures at
    c.before.before.fill1.ensures)

returns-2 : tie.Need-returns-in-Err
returns-2 c = answered-refused alone _ (ap (step_read_said c.before.before.before.args.width) c.before.in-Err.is)
    c.number_of.ensures

pub step_answered_spec : {M : Type 1} → statement M
step_answered_spec =
    tie.close
    (tie.spec
    (search rules)
    (search rules)
    (search rules)
    (search rules)
    number-of-requires
    (search rules)
    returns
    returns-2)
