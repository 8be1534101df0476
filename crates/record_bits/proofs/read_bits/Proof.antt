-- The eight bytes that end with the field's last one hold it. Near the start the number that falls is the count of bytes still to be touched.
-- It starts at all that the field touches, since k starts at 0.
use Prim.Native.Nat.{◌≤◌, ◌-◌, ◌*◌, ◌/◌, zero-le}
use mathlib.Core.Path.{◌≡◌, sym, ◌∙◌}
use borrow.Author.Rules.{rules}
use Rattle.record_bits.specs.Field.{bits_at}
use Rattle.record_bits.specs.Touched.{touched}
use Rattle.record_bits.proofs.Fields.{bits-zero}
use Rattle.record_bits.proofs.Bytes.{turn-within, turn-less, turns-end, bits-ending}
use Rattle.record_bits.proofs.Turns.{width_some, below-small, byte-start, width_small, eight-in, eight-small, eight-end, eight-start, next_small, byte_small, byte-in, turns-few}
use Rattle.record_bits.proofs.read_bits.Statement.{statement}
use Rattle.record_bits.proofs.read_bits.Tie as tie

abbrev invariant-loop : tie.invariant-loop-k
invariant-loop src at width end last below first bytes v₀ k₀ v k = (k ≤ touched at width) × (v ≡ bits_at src (at / 8 * 8) (k * 8))

abbrev decreases-loop : tie.decreases-loop-k
decreases-loop src at width end last below first bytes v₀ k₀ v k = touched at width - k

returns : tie.Need-returns-then-width-eq0 invariant-loop decreases-loop
returns c = let s = c.before.before in rw c.if-width-eq0.true (sym (bits-zero s.args.src.now s.args.at))

eight-requires : tie.Need-eight-requires invariant-loop decreases-loop
eight-requires c κs =
    let s = c.before.before.before in
    let some = width_some c.before.if-width-eq0.false in (
      eight-in s.args.at s.args.width s.requires.2 some _ s.requires.0 s.requires.1 c.if-last-ge7.true,
      eight-small s.args.at s.args.width s.requires.2 some _ s.requires.0 s.requires.1 c.if-last-ge7.true,
    )

part-requires : tie.Need-part-requires invariant-loop decreases-loop
part-requires c κs =
    let s = c.before.before.before.before in
    (below-small _, width_small s.args.at s.args.width s.requires.2 (width_some c.before.before.if-width-eq0.false))

returns-2 : tie.Need-returns-then-last-ge7 invariant-loop decreases-loop
returns-2 c =
    let s = c.before.before.before.before.before in
    let some = width_some c.before.before.before.if-width-eq0.false in
    let far = c.before.before.if-last-ge7.true in
    c.part.ensures ∙ bits-ending s.args.src.now s.args.at s.args.width _ 8 some
    (eight-end s.args.at s.args.width s.requires.2 some far) (eight-start s.args.at s.args.width s.requires.2 some) c.before.eight.ensures

joined-requires : tie.Need-joined-v-requires invariant-loop decreases-loop
joined-requires c κs =
    let s = c.before.before.before.before.before in
    let few = s.requires.2 in
    let some = width_some c.before.before.before.if-width-eq0.false in
    let turn = c.loop-k-test.true in (
      byte-in s.args.at s.args.width few some turn _ s.requires.0,
      byte_small s.args.at s.args.width few some turn s.requires.1,
      turns-few s.args.at s.args.width few some turn,
      c.before.loop-k.invariant.1,
    )

add-k : tie.Need-overflow_add-k invariant-loop decreases-loop
add-k c =
    let s = c.before.before.before.before.before.before in
    next_small s.args.at s.args.width s.requires.2 (width_some c.before.before.before.before.if-width-eq0.false) c.before.loop-k-test.true

loop-less : tie.Need-loop-k-smaller invariant-loop decreases-loop
loop-less c =
    let s = c.before.before.before.before.before.before in
    turn-less s.args.at s.args.width (width_some c.before.before.before.before.if-width-eq0.false) _ c.before.loop-k-test.true

loop-again : tie.Need-loop-k-preserved invariant-loop decreases-loop
loop-again c =
    let s = c.before.before.before.before.before.before in
    let some = width_some c.before.before.before.before.if-width-eq0.false in
    (turn-within s.args.at s.args.width some _ c.before.loop-k-test.true, c.joined-v.ensures)

part-requires-2 : tie.Need-part-requires-2 invariant-loop decreases-loop
part-requires-2 c κs =
    let s = c.before.before.before.before.before in
    (below-small _, width_small s.args.at s.args.width s.requires.2 (width_some c.before.before.before.if-width-eq0.false))

returns-3 : tie.Need-returns invariant-loop decreases-loop
returns-3 c =
    let s = c.before.before.before.before.before.before in
    let l = c.before.before.loop-k in
    let some = width_some c.before.before.before.before.if-width-eq0.false in
    c.part-2.ensures ∙ bits-ending s.args.src.now s.args.at s.args.width (s.args.at / 8) l.k some
    (turns-end s.args.at s.args.width some _ c.before.loop-k-test.false l.invariant.0) (byte-start s.args.at) l.invariant.1

pub read_bits_spec : {M : Type 1} → statement M
read_bits_spec =
    tie.close
    (tie.spec invariant-loop decreases-loop returns (search rules) (search rules) (search rules) eight-requires part-requires
    returns-2 (search rules) (search rules) (λ c. (zero-le, sym (bits-zero _ _))) joined-requires add-k
    loop-less loop-again part-requires-2 returns-3)
