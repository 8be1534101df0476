use borrow.Author.Rules.{rules}
use mathlib.Core.List.{[], ◌∷◌}
use Rattle.host_answer.proofs.Fills.{filled_on}
use Rattle.host_numbers.proofs.fill2.Statement.{statement}
use Rattle.host_numbers.proofs.fill2.Tie as tie

returns : tie.Need-returns
returns c =
    let s = c.before.before.before.before.before.before.before.before.before in
    rw (c.before.before.put.ensures, c.before.before.before.before.before.before.fill1.ensures)
    (filled_on (s.args.a ∷ []) s.args.b s.args.found.now)

pub fill2_spec : {M : Type 1} → statement M
fill2_spec = tie.close (tie.spec (search rules) (search rules) (search rules) returns)
