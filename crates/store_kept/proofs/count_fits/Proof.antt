-- The count is compared by a division, and no product wraps (`count-test`).
use Prim.Native.Nat.{◌+◌}
use native.Mathlib.Omega.{arith}
use borrow.Author.Rules.{rules}
use lib.ListN.{length, get_or}
use Rattle.store_kept.proofs.Named.{count-test}
use Rattle.store_kept.proofs.count_fits.Statement.{statement}
use Rattle.store_kept.proofs.count_fits.Tie as tie

returns : tie.Need-returns
returns c =
    let s = c.before in
    count-test (length s.args.store.now) (s.args.cells + 1) (get_or s.args.store.now 0 0) s.requires.0 (omega arith)

pub count_fits_spec : {M : Type 1} → statement M
count_fits_spec = tie.close (tie.spec (search rules) (search rules) (search rules) (search rules) returns)
