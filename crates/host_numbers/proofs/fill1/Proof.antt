use borrow.Author.Rules.{rules}
use mathlib.Core.Path.{◌∙◌}
use Rattle.host_answer.proofs.Fills.{filled-first}
use Rattle.host_numbers.proofs.fill1.Statement.{statement}
use Rattle.host_numbers.proofs.fill1.Tie as tie

returns : tie.Need-returns
returns c = c.before.before.put.ensures ∙ filled-first _ _

pub fill1_spec : {M : Type 1} → statement M
fill1_spec = tie.close (tie.spec (search rules) (search rules) returns)
