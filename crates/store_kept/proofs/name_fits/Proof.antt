-- The test of a number between two others is the definition's.
use mathlib.Core.Path.{sym, ◌∙◌}
use borrow.Author.Rules.{rules}
use Rattle.store_kept.proofs.name_fits.Statement.{statement}
use Rattle.store_kept.proofs.name_fits.Tie as tie

returns : tie.Need-returns-then-between
returns c = rw (sym c.before.between.ensures ∙ c.if-between.true)

returns-2 : tie.Need-returns
returns-2 c = rw (sym c.before.between.ensures ∙ c.if-between.false)

pub name_fits_spec : {M : Type 1} → statement M
name_fits_spec = tie.close (tie.spec (search rules) returns returns-2)
