-- Each width by its case of the definition.
use borrow.Author.Rules.{rules}
use Rattle.record_layouts.proofs.of_width.Statement.{statement}
use Rattle.record_layouts.proofs.of_width.Tie as tie

returns : tie.Need-returns-in-Narrow
returns c = rw c.in-Narrow.is

returns-2 : tie.Need-returns-in-Wide
returns-2 c = rw c.in-Wide.is

pub of_width_spec : {M : Type 1} → statement M
of_width_spec = tie.close (tie.spec (search rules) (search rules) (search rules) returns returns-2)
