use borrow.Author.Rules.{rules}
use mathlib.Core.List.{[], ◌∷◌}
use Rattle.host_answer.proofs.Fills.{filled_on}
use Rattle.host_numbers.proofs.fill3.Statement.{statement}
use Rattle.host_numbers.proofs.fill3.Tie as tie

returns : tie.Need-returns
returns c =
    let s = c.before.before.before.before.before.before.before.before.before in
    rw (c.before.before.put.ensures, c.before.before.before.before.before.before.fill2.ensures)
    (filled_on (s.args.a ∷ s.args.b ∷ []) s.args.c s.args.found.now)

pub fill3_spec : {M : Type 1} → statement M
fill3_spec = tie.close (tie.spec (search rules) (search rules) (search rules) returns)
