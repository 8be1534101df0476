use borrow.Author.Rules.{rules}
use Rattle.step_face.proofs.Corrections.{decoded-even, decoded-odd}
use Rattle.step_face.proofs.correction.code.Statement.{statement}
use Rattle.step_face.proofs.correction.code.Tie as tie

returns : tie.Need-returns-then-negative
returns c = rw c.if-negative.true (decoded-odd c.before.args.amount)

returns-2 : tie.Need-returns-else-negative
returns-2 c = rw c.if-negative.false (decoded-even c.before.args.amount)

pub code_spec : {M : Type 1} → statement M
code_spec = tie.close (tie.spec (search rules) (search rules) (search rules) returns returns-2)
