-- The byte is the old bits above the piece, the piece, and the old bits below it; eight bits are the whole byte.
use mathlib.Core.Path.{◌≡◌, sym}
use Prim.Native.Nat.{◌+◌, ◌*◌, ◌/◌, ◌%◌, ◌<◌}
use borrow.Author.Rules.{rules}
use native.Mathlib.Omega.{arith}
use lib.Pow.{pow_pos}
use Rattle.record_bits.specs.Mixed.{mixed}
use Rattle.record_bits.proofs.Puts.{mixed-lt, mixed-whole}
use Rattle.record_bits.proofs.mix.Statement.{statement}
use Rattle.record_bits.proofs.mix.Tie as tie

-- the sum is the byte that is meant, and is a byte
whole : (c : tie.After-pow2-m) → let s = c.before.before.before.before in let w = c.before.before.wide-w.result in
    w / c.before.pow2-top.result * c.before.pow2-top.result + (s.args.v * c.pow2-m.result + w % c.pow2-m.result)
    ≡ mixed s.args.x s.args.e s.args.k s.args.v
unfolding mixed
whole c = rw (c.before.before.wide-w.ensures, c.before.pow2-top.ensures, c.pow2-m.ensures)

byte : (c : tie.After-pow2-m) → let s = c.before.before.before.before in mixed s.args.x s.args.e s.args.k s.args.v < 256
byte c = let s = c.before.before.before.before in mixed-lt s.args.x s.args.e s.args.k s.args.v s.requires.1 (omega arith) s.requires.0

-- eight bits are the whole byte
cast-whole : tie.Need-overflow_cast-result
cast-whole c =
    let s = c.before in
    let e : s.args.k ≡ 8 = omega arith in
    record { fits = rw e at s.requires.1 }

whole-byte : tie.Need-returns-then-k-eq8
whole-byte c = let s = c.before in sym (mixed-whole s.args.x s.args.e s.args.k s.args.v s.ranges.x.fits (omega arith) s.requires.0)

pub mix_spec : {M : Type 1} → statement M
mix_spec =
    tie.close
    (tie.spec cast-whole whole-byte (search rules) (search rules) (search rules) (search rules)
    (λ c. rw c.before.pow2-top.ensures (pow_pos _))
    (λ c. omega (arith, whole c, byte c))
    (λ c. omega (arith, whole c, byte c))
    (λ c. rw c.pow2-m.ensures (pow_pos _))
    (λ c. omega (arith, whole c, byte c))
    (λ c. omega (arith, whole c, byte c))
    (λ c. omega (arith, whole c, byte c))
    whole)
