use borrow.Author.Tests.{le-leb, lt-leb}
use Rattle.model.proofs.needs.between.Statement.{statement}
use Rattle.model.proofs.needs.between.Tie as tie

returns : tie.Need-returns-then-x-low
returns c = rw (lt-leb _ _ c.if-x-low.true)

returns-2 : tie.Need-returns
returns-2 c = rw (le-leb _ _ c.if-x-low.false)

pub between_spec : {M : Type 1} → statement M
between_spec = tie.close (tie.spec returns returns-2)
