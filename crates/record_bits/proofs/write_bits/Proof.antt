-- A turn writes what of the field lies in one byte; after k bits the upper k of the value stand there and no other bit has changed (`Put`).
use mathlib.Core.Path.{◌≡◌}
use Prim.Native.Nat.{◌≤◌, ◌+◌, ◌-◌, ◌/◌, ◌%◌, ◌^◌, min, zero-le}
use native.Mathlib.Omega.{arith}
use native.Mathlib.Nat.{mod-lt}
use borrow.Author.Rules.{rules}
use lib.Pow.{pow_pos}
use Rattle.record_bits.specs.Put.{Put}
use Rattle.record_bits.proofs.Puts.{put-start, put-turn, put-end}
use Rattle.record_bits.proofs.Turns.{piece-fits, piece-small, piece-in-byte, rest-small, done-small, done-within, done-less}
use Rattle.record_bits.proofs.write_bits.Statement.{statement}
use Rattle.record_bits.proofs.write_bits.Tie as tie

abbrev invariant-loop : tie.invariant-loop-done
invariant-loop dst₀ at width v k₀ dst k = (k ≤ width) × Put dst₀ at k (v / 2 ^ (width - k)) dst

abbrev decreases-loop : tie.decreases-loop-done
decreases-loop dst₀ at width v k₀ dst k = width - k

-- how many bits a turn writes
piece : (c : tie.After-least-n invariant-loop decreases-loop) → let l = c.before.before.loop-done in let s = c.before.before.before.before in
    c.least-n.result ≡ min (8 - (s.args.at + l.done) % 8) (s.args.width - l.done)
piece c = c.least-n.ensures

sub-rest-2 : tie.Need-overflow_sub-rest-in-loop-done invariant-loop decreases-loop
sub-rest-2 c =
    let t = c.before in
    let s = t.before.before.before in
    piece-fits s.args.at s.args.width _ _ t.loop-done-test.true s.requires.2 (piece c)

shr-rest : tie.Need-overflow_shr-rest invariant-loop decreases-loop
shr-rest c =
    let t = c.before in
    let s = t.before.before.before in
    rest-small s.args.at s.args.width _ _ t.loop-done-test.true s.requires.2 (piece c)

pow2-requires : tie.Need-pow2-requires invariant-loop decreases-loop
pow2-requires c κs =
    let t = c.before.before in
    let s = t.before.before.before in
    piece-small s.args.at s.args.width _ _ t.loop-done-test.true s.requires.2 (piece c.before)

put-piece-requires : tie.Need-put_piece-requires invariant-loop decreases-loop
put-piece-requires c κs =
    let t = c.before.before.before in
    let s = t.before.before.before in
    let same = t.before.loop-done.invariant.1.same_length in
    let within = piece-in-byte s.args.at s.args.width _ _ t.loop-done-test.true s.requires.2 (piece c.before.before) in
    (omega arith, within, rw c.pow2.ensures (mod-lt _ (pow_pos _)))

add_done : tie.Need-overflow_add-done invariant-loop decreases-loop
add_done c =
    let p = c.before.before.before.before.before in
    let s = p.before.before.before.before in
    done-small s.args.at s.args.width _ _ p.before.loop-done-test.true s.requires.2 (piece p)

loop-less : tie.Need-loop-done-smaller invariant-loop decreases-loop
loop-less c =
    let p = c.before.before.before.before.before in
    let s = p.before.before.before.before in
    done-less s.args.at s.args.width _ _ p.before.loop-done-test.true s.requires.2 (piece p)

loop-again : tie.Need-loop-done-preserved invariant-loop decreases-loop
loop-again c =
    let p = c.before.before.before.before.before in
    let t = p.before in
    let s = t.before.before.before in
    let within = done-within s.args.at s.args.width _ _ t.loop-done-test.true s.requires.2 (piece p) in
    let powers = c.before.before.before.pow2.ensures in
    (within, put-turn _ _ _ _ _ _ _ _ powers within t.before.loop-done.invariant.1 c.before.before.put_piece.ensures)

returns : tie.Need-returns invariant-loop decreases-loop
returns c = put-end _ _ _ _ _ _ (search rules) (search rules) c.before.loop-done.invariant.1

pub write_bits_spec : {M : Type 1} → statement M
write_bits_spec =
    tie.close
    (tie.spec invariant-loop decreases-loop (λ c. (zero-le, put-start _ _ _ _ c.before.requires.3)) (search rules) (search rules)
    (λ c. c.before.loop-done.invariant.0) (search rules) (λ c. c.before.before.loop-done.invariant.0) sub-rest-2 shr-rest pow2-requires
    (λ c. rw c.pow2.ensures (pow_pos _)) put-piece-requires
    add_done loop-less loop-again (λ c. c.before.loop-done.invariant.1.same_length) returns)
