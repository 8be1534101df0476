-- The first of the three that is a minus with size 0 ends the search; the parts before it are none.
use borrow.Author.Rules.{rules}
use borrow.Author.Tests.{eq-eqb, ne_eqb}
use Rattle.record_zeros.specs.Scans.{one_of_three}
use Rattle.record_zeros.proofs.minus_in_three.Statement.{statement}
use Rattle.record_zeros.proofs.minus_in_three.Tie as tie

returns : tie.Need-returns-then-part-minus
unfolding one_of_three
returns c = rw (← c.before.before.pow2-minus.ensures, ← c.before.part.ensures, eq-eqb _ _ c.if-part-minus.true)

returns-2 : tie.Need-returns-then-part-minus-2
unfolding one_of_three
returns-2 c =
    let one = c.before.before in
    rw (
      ← one.before.before.pow2-minus.ensures,
      ← one.before.part.ensures,
      ← c.before.part-2.ensures,
      ne_eqb _ _ one.if-part-minus.false,
      eq-eqb _ _ c.if-part-minus-2.true,
    )

returns-3 : tie.Need-returns
unfolding one_of_three
returns-3 c =
    let two = c.before in
    let one = two.before.before in
    rw (
      ← one.before.before.pow2-minus.ensures,
      ← one.before.part.ensures,
      ← two.before.part-2.ensures,
      ← c.part-3.ensures,
      ne_eqb _ _ one.if-part-minus.false,
      ne_eqb _ _ two.if-part-minus-2.false,
    )

pub minus_in_three_spec : {M : Type 1} → statement M
minus_in_three_spec =
    tie.close (tie.spec (search rules) (search rules) (search rules) (search rules) returns (search rules) returns-2 (search rules) returns-3)
