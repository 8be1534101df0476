-- Past the end of the table there is nothing but 0.
use Prim.Native.Nat.{◌+◌, ◌≤◌}
use mathlib.Core.Path.{sym}
use native.Mathlib.Omega.{arith}
use borrow.Author.Rules.{rules}
use lib.ListN.{length, get_or-eq_default}
use Rattle.store_entries.proofs.further.Statement.{statement}
use Rattle.store_entries.proofs.further.Tie as tie

returns-2 : tie.Need-returns
returns-2 c =
    let s = c.before in
    let h : length s.args.part.now ≤ s.args.n + s.args.i = omega arith in
    sym (get_or-eq_default s.args.part.now 0 h)

pub further_spec : {M : Type 1} → statement M
further_spec = tie.close (tie.spec (search rules) (search rules) (search rules) (search rules) returns-2)
