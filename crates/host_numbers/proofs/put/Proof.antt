use borrow.Author.Rules.{rules}
use mathlib.Core.Path.{sym}
use Rattle.host_answer.proofs.Fills.{set_past}
use Rattle.host_numbers.proofs.put.Statement.{statement}
use Rattle.host_numbers.proofs.put.Tie as tie

returns-2 : tie.Need-returns-else-at-found
returns-2 c = sym (set_past _ _ _ c.if-at-found.false)

pub put_spec : {M : Type 1} → statement M
put_spec = tie.close (tie.spec (search rules) (search rules) (search rules) (search rules) returns-2)
