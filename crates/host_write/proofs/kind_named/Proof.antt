use borrow.Author.Tests.{ne_eqb}
use Rattle.host_write.proofs.kind_named.Statement.{statement}
use Rattle.host_write.proofs.kind_named.Tie as tie

returns : tie.Need-returns-then-named-eq-OUTFALLS
returns c = rw c.if-named-eq-OUTFALLS.true

returns-2 : tie.Need-returns-then-named-eq-WIDE_OUTFALLS
returns-2 c = rw (ne_eqb _ _ c.before.if-named-eq-OUTFALLS.false, c.if-named-eq-WIDE_OUTFALLS.true)

returns-3 : tie.Need-returns
returns-3 c = rw (ne_eqb _ _ c.before.if-named-eq-OUTFALLS.false, ne_eqb _ _ c.if-named-eq-WIDE_OUTFALLS.false)

pub kind_named_spec : {M : Type 1} → statement M
kind_named_spec = tie.close (tie.spec returns returns-2 returns-3)
