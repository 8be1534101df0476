-- A test that does not hold is a refusal at its place.
use mathlib.Core.Path.{refl, ◌∙◌}
use borrow.Author.Rules.{rules}
use Rattle.model.proofs.Verdicts.{need-unmet}
use Rattle.record_zeros.proofs.refused.Statement.{statement}
use Rattle.record_zeros.proofs.refused.Tie as tie

returns : tie.Need-returns
returns c = c.need.ensures ∙ need-unmet _ _ refl

pub refused_spec : {M : Type 1} → statement M
refused_spec = tie.close (tie.spec (search rules) returns)
