-- Four ways out, in the order of the definition: too wide, too far on, past the bytes, spelled.
use Prim.Native.Nat.{◌+◌, ◌≤◌, ◌<◌}
use lib.ListN.{length}
use native.Mathlib.Omega.{arith}
use borrow.Author.Rules.{rules}
use borrow.Author.Tests.{le-leb, lt-leb}
use Rattle.record_bits.specs.Layout.{bytes_for}
use Rattle.record_bits.proofs.Layouts.{bytes-hold}
use Rattle.record_reader.proofs.number_at.Statement.{statement}
use Rattle.record_reader.proofs.number_at.Tie as tie

returns : tie.Need-returns-then-width-gt-WIDEST
returns c = rw (lt-leb _ _ c.if-width-gt-WIDEST.true)

returns-2 : tie.Need-returns-then-bit-gt-FURTHEST
returns-2 c = rw (le-leb _ _ c.before.if-width-gt-WIDEST.false, lt-leb _ _ c.if-bit-gt-FURTHEST.true)

-- whether the bytes hold the field
short : (c : tie.Then-bytes-bytes_for) → let s = c.before.before.before.before.before in length s.args.bytes.now < bytes_for (s.args.bit + s.args.width)
short c = rw c.before.bytes_for.ensures at c.if-bytes-bytes_for.true

holds : (c : tie.Else-bytes-bytes_for) → let s = c.before.before.before.before.before in bytes_for (s.args.bit + s.args.width) ≤ length s.args.bytes.now
holds c = rw c.before.bytes_for.ensures at c.if-bytes-bytes_for.false

returns-3 : tie.Need-returns-then-bytes-bytes_for
returns-3 c = let k = c.before.before in rw (le-leb _ _ k.before.if-width-gt-WIDEST.false, le-leb _ _ k.if-bit-gt-FURTHEST.false, lt-leb _ _ (short c))

read-bits-requires : tie.Need-read_bits-requires
read-bits-requires c κs = let s = c.before.before.before.before.before in omega (arith, holds c, bytes-hold (s.args.bit + s.args.width))

returns-4 : tie.Need-returns
returns-4 c =
    let k = c.before.before.before in
    rw (le-leb _ _ k.before.if-width-gt-WIDEST.false, le-leb _ _ k.if-bit-gt-FURTHEST.false, le-leb _ _ (holds c.before), c.read_bits.ensures)

pub number_at_spec : {M : Type 1} → statement M
number_at_spec = tie.close (tie.spec returns returns-2 (search rules) (search rules) returns-3 read-bits-requires returns-4)
