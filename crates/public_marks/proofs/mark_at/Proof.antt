use mathlib.Core.Path.{sym}
use borrow.Author.Rules.{rules}
use lib.ListN.{get_or-eq_default}
use Rattle.public_marks.proofs.mark_at.Statement.{statement}
use Rattle.public_marks.proofs.mark_at.Tie as tie

returns-2 : tie.Need-returns
returns-2 c = sym (get_or-eq_default c.before.args.marks.now 0 c.if-c-marks.false)

pub mark_at_spec : {M : Type 1} → statement M
mark_at_spec = tie.close (tie.spec (search rules) (search rules) (search rules) returns-2)
