-- The quotient rounded up, as the definition says it.
use mathlib.Core.Path.{refl}
use borrow.Author.Rules.{rules}
use Rattle.page.specs.Page.{pages}
use Rattle.page.proofs.pages.Statement.{statement}
use Rattle.page.proofs.pages.Tie as tie

returns : tie.Need-returns
unfolding pages
returns c = refl

pub pages_spec : {M : Type 1} → statement M
pages_spec = tie.close (tie.spec (search rules) (search rules) returns)
