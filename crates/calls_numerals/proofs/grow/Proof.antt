use borrow.Author.Rules.{rules}
use Rattle.calls_numerals.proofs.Growth.{larger, fitting}
use Rattle.calls_numerals.proofs.grow.Statement.{statement}
use Rattle.calls_numerals.proofs.grow.Tie as tie

returns : tie.Need-returns-then-size-gt-TENTH
returns c = larger c.before.args.n.minus c.before.args.n.size c.before.args.digit (search rules)

returns-2 : tie.Need-returns-then-tens-digit
returns-2 c = larger c.before.before.args.n.minus c.before.before.args.n.size c.before.before.args.digit (search rules)

returns-3 : tie.Need-returns
returns-3 c = fitting _ _ _ (search rules)

pub grow_spec : {M : Type 1} → statement M
grow_spec = tie.close (tie.spec returns (search rules) (search rules) returns-2 (search rules) returns-3)
