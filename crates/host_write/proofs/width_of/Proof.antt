use borrow.Author.Tests.{le-leb, lt-leb}
use Rattle.host_write.proofs.width_of.Statement.{statement}
use Rattle.host_write.proofs.width_of.Tie as tie

returns : tie.Need-returns-then-kind-ge-FIRST_WIDE
returns c = rw (le-leb _ _ c.if-kind-ge-FIRST_WIDE.true)

returns-2 : tie.Need-returns
returns-2 c = rw (lt-leb _ _ c.if-kind-ge-FIRST_WIDE.false)

pub width_of_spec : {M : Type 1} → statement M
width_of_spec = tie.close (tie.spec returns returns-2)
