-- The two tests are the definition's, in its order.
use borrow.Author.Rules.{rules}
use borrow.Author.Tests.{eq-eqb, ne_eqb}
use Rattle.record_heads.proofs.is_step.Statement.{statement}
use Rattle.record_heads.proofs.is_step.Tie as tie

returns : tie.Need-returns-then-kind-of_width
returns c = rw (← c.before.of_width.ensures, eq-eqb _ _ c.if-kind-of_width.true)

returns-2 : tie.Need-returns
returns-2 c = let k = c.before in rw (← k.before.of_width.ensures, ne_eqb _ _ k.if-kind-of_width.false, ← c.of_width-2.ensures)

pub is_step_spec : {M : Type 1} → statement M
is_step_spec = tie.close (tie.spec (search rules) returns (search rules) returns-2)
