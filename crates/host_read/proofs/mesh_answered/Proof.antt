use mathlib.Core.Path.{ap}
use borrow.Author.Rules.{rules}
use Rattle.record_reading.specs.Answers.{mesh_said}
use Rattle.host_read_promises.specs.Read.{counts_found}
use Rattle.host_answer.proofs.Answers.{refusal-of, answered-refused, answered-found}
use Rattle.host_read.proofs.mesh_answered.Statement.{statement}
use Rattle.host_read.proofs.mesh_answered.Tie as tie

number-of-requires : tie.Need-number_of-requires
number-of-requires c κs = refusal-of (ap mesh_said c.in-Err.is) c.before.before.requires

returns : tie.Need-returns-in-Ok
returns c = answered-found counts_found _ (ap mesh_said c.before.before.before.before.before.in-Ok.is)
    (rw c.before.before.before.width_number.ensures at c.before.before.fill3.ensures)

returns-2 : tie.Need-returns-in-Err
returns-2 c = answered-refused counts_found _ (ap mesh_said c.before.in-Err.is) c.number_of.ensures

pub mesh_answered_spec : {M : Type 1} → statement M
mesh_answered_spec =
    tie.close
    (tie.spec
    (search rules)
    (search rules)
    (search rules)
    (search rules)
    number-of-requires
    (search rules)
    returns
    returns-2)
