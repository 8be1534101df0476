use borrow.Author.Tests.{ne_eqb}
use Rattle.host_read.proofs.width_named.Statement.{statement}
use Rattle.host_read.proofs.width_named.Tie as tie

returns : tie.Need-returns-then-named-eq0
returns c = rw c.if-named-eq0.true

returns-2 : tie.Need-returns
returns-2 c = rw (ne_eqb _ _ c.if-named-eq0.false)

pub width_named_spec : {M : Type 1} → statement M
width_named_spec = tie.close (tie.spec returns returns-2)
