-- The entries passed are written, the rest of the table is as lent.
use Prim.Native.Nat.{◌≤◌, ◌<◌, ◌-◌, ◌+◌, ◌*◌, ◌^◌, zero-le}
use mathlib.Core.Path.{◌≡◌, refl, ◌∙◌}
use native.Mathlib.Omega.{arith}
use lib.Dec.{eqb}
use lib.ListN.{length, length-set}
use Rattle.lists.specs.Table.{table, over}
use Rattle.lists.proofs.Tables.{over-start}
use Rattle.signed.specs.Sign.{with_sign}
use Rattle.record_bits.specs.Field.{bits_at}
use Rattle.record_sections.proofs.Codes.{three-turn}
use Rattle.record_sections.proofs.Turns.{place-small, offset-fits, place-fits, three-in, three-within, three-less}
use Rattle.record_sections.proofs.read_threes.Statement.{statement}
use Rattle.record_sections.proofs.read_threes.Tie as tie

abbrev invariant-loop : tie.invariant-loop-i
invariant-loop bytes first width n out₀ row i₀ out i =
    (length out ≡ length out₀) × (i ≤ n)
    × (out ≡ over (table i (λ k. with_sign (eqb (bits_at bytes (first + k * (1 + width)) 1) 1) (bits_at bytes (first + k * (1 + width) + 1) width))) out₀)

abbrev decreases-loop : tie.decreases-loop-i
decreases-loop bytes first width n out₀ row i₀ out i = n - i

-- three rows are in the record
rows_in : (c : tie.In-loop-i invariant-loop decreases-loop) → let s = c.before.before.before in
    s.args.first + c.before.loop-i.i * (1 + s.args.width) + 3 * (1 + s.args.width) ≤ 8 * length s.args.bytes.now
rows_in c = let s = c.before.before.before in three-in s.args.first c.before.loop-i.i (1 + s.args.width)
    (s.requires.1 (c.before.loop-i.i + 2) c.loop-i-test.true)

rows-small : (c : tie.In-loop-i invariant-loop decreases-loop) → let s = c.before.before.before in
    s.args.first + c.before.loop-i.i * (1 + s.args.width) + 3 * (1 + s.args.width) < 2 ^ 64
rows-small c = place-small (rows_in c) c.before.before.before.requires.0.0

add-loop : tie.Need-overflow_add-i invariant-loop decreases-loop
add-loop c = let s = c.before.before in record { fits = omega (arith, c.loop-i.invariant.1, s.requires.0.2, s.well_formed.1.1.1.1.0.1) }

read-bits-requires : tie.Need-read_bits-codes-requires invariant-loop decreases-loop
read-bits-requires c κs = (rows_in c, rows-small c, c.before.before.before.requires.0.1)

put-three-requires : tie.Need-put_three-requires invariant-loop decreases-loop
put-three-requires c κs =
    let t = c.before.before in
    let s = t.before.before.before in
    (omega (arith, t.loop-i-test.true, t.before.loop-i.invariant.0, s.requires.0.2), omega (arith, s.requires.0.1))

add-i : tie.Need-overflow_add-i-in-loop-i invariant-loop decreases-loop
add-i c =
    let t = c.before.before.before.before in
    let s = t.before.before.before in
    record { fits = omega (arith, t.loop-i-test.true, s.requires.0.2, s.well_formed.1.1.1.1.0.1) }

loop-again : tie.Need-loop-i-preserved invariant-loop decreases-loop
loop-again c =
    let t = c.before.before.before.before in
    let s = t.before.before.before in
    let l = t.before.loop-i in
    let p = c.before.put_three.ensures in (
      rw p (simp length-set l.invariant.0),
      three-within l.i t.loop-i-test.true,
      p ∙ three-turn s.args.bytes.now s.args.first s.args.width l.i _ (omega (arith, t.loop-i-test.true, s.requires.0.2))
          c.before.before.before.read_bits-codes.ensures l.invariant.2,
    )

pub read_threes_spec : {M : Type 1} → statement M
read_threes_spec =
    tie.close
    (tie.spec invariant-loop decreases-loop (λ c. record { fits = omega (arith, c.before.requires.0.1) }) (λ c. (refl, zero-le, over-start _ _)) add-loop
    (λ c. offset-fits _ _ _ (rows-small c)) (λ c. place-fits _ _ _ (rows-small c)) (λ c. record { fits = omega (arith, c.before.before.before.requires.0.1) })
    read-bits-requires put-three-requires add-i (λ c. three-less _ c.before.before.before.before.loop-i-test.true) loop-again
    (λ c. c.before.loop-i.invariant.0) (λ c. (c.before.loop-i.invariant.1, c.before.loop-i.invariant.2)))
