-- The bytes before make room for one more (`joined-room`), so that neither product nor sum wraps; then they spell one byte more (`bits-more`).
use Prim.Native.Nat.{◌+◌}
use native.Mathlib.Omega.{arith}
use borrow.Author.Rules.{rules}
use Rattle.record_bits.proofs.Bytes.{bits-more, joined-room}
use Rattle.record_bits.proofs.joined.Statement.{statement}
use Rattle.record_bits.proofs.joined.Tie as tie

mul-result : tie.Need-overflow_mul-result
mul-result c = let s = c.before in record { fits = omega (arith, joined-room s.args.src.now s.args.first s.args.k s.requires.2 s.requires.3) }

add-result : tie.Need-overflow_add-result
add-result c =
    let s = c.before.before.before in
    let small = c.before.shared_slice_known-2-1.given (s.args.first + s.args.k) in
    record { fits = omega (arith, c.wide.ensures, small, joined-room s.args.src.now s.args.first s.args.k s.requires.2 s.requires.3) }

returns : tie.Need-returns
returns c =
    let s = c.before.before.before in
    let small = c.before.shared_slice_known-2-1.given (s.args.first + s.args.k) in
    bits-more s.args.src.now s.args.first s.args.k (omega arith) s.requires.3 c.wide.ensures

pub joined_spec : {M : Type 1} → statement M
joined_spec = tie.close (tie.spec mul-result (search rules) (search rules) (search rules) add-result returns)
