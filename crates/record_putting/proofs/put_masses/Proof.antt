-- Each width's masses are a column of that width.
use native.Mathlib.Omega.{arith}
use borrow.Author.Rules.{rules}
use Rattle.record_putting.proofs.put_masses.Statement.{statement}
use Rattle.record_putting.proofs.put_masses.Tie as tie

put-column-requires : tie.Need-put_column-requires
put-column-requires c κs = let p = rw c.before.in-Narrow.is at c.before.before.before.before.requires in
    ((omega arith, omega arith, p.0), (p.1, p.2))

put-column-requires-2 : tie.Need-put_column-requires-in-Wide
put-column-requires-2 c κs = let p = rw c.before.in-Wide.is at c.before.before.before.before.requires in
    ((omega arith, omega arith, p.0), (p.1, p.2))

returns : tie.Need-returns-in-Narrow
returns c = rw c.before.before.before.before.in-Narrow.is c.before.before.put_column.ensures

returns-2 : tie.Need-returns-in-Wide
returns-2 c = rw c.before.before.before.before.in-Wide.is c.before.before.put_column-in-Wide.ensures

pub put_masses_spec : {M : Type 1} → statement M
put_masses_spec =
    tie.close
    (tie.spec (search rules) put-column-requires (search rules) put-column-requires-2 (search rules) returns (search rules) returns-2)
