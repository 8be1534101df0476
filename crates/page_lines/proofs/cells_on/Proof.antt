-- The lesser of what is left and of a page: the contract of `least` is the definition.
use borrow.Author.Rules.{rules}
use Rattle.page_lines.specs.Lines.{cells_on}
use Rattle.page_lines.proofs.cells_on.Statement.{statement}
use Rattle.page_lines.proofs.cells_on.Tie as tie

returns : tie.Need-returns
unfolding cells_on
returns c = c.least.ensures

pub cells_on_spec : {M : Type 1} → statement M
cells_on_spec = tie.close (tie.spec (search rules) (search rules) (λ c κs. search rules) returns)
