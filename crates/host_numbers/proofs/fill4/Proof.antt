use borrow.Author.Rules.{rules}
use mathlib.Core.List.{[], ◌∷◌}
use Rattle.host_answer.proofs.Fills.{filled_on}
use Rattle.host_numbers.proofs.fill4.Statement.{statement}
use Rattle.host_numbers.proofs.fill4.Tie as tie

returns : tie.Need-returns
returns c =
    let s = c.before.before.before.before.before.before.before.before.before in
    rw (c.before.before.put.ensures, c.before.before.before.before.before.before.fill3.ensures)
    (filled_on (s.args.a ∷ s.args.b ∷ s.args.c ∷ []) s.args.d s.args.found.now)

pub fill4_spec : {M : Type 1} → statement M
fill4_spec = tie.close (tie.spec (search rules) (search rules) (search rules) returns)
