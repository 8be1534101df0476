-- A writer's states: so many fields are written into the front of a list of bytes, and the rest is as it was.
use mathlib.Core.Path.{◌≡◌, sym, ap, ◌∙◌}
use mathlib.Core.List.{List, ◌++◌}
use Prim.Native.Nat.{ℕ, suc, ◌+◌, ◌-◌, ◌*◌, ◌/◌, ◌%◌, ◌^◌, ◌≤◌, ◌<◌}
use native.Mathlib.Nat.{zero-div}
use native.Mathlib.Decide.{dec_lt}
use native.Mathlib.Omega.{arith}
use lib.ListN.{length, get_or, drop, length-append, length-drop, get_or-append}
use lib.Seq.{get_or-append-add, get_or-drop}
use Rattle.lists.specs.Table.{over}
use Rattle.record_bits.specs.Field.{bit_at}
use Rattle.record_bits.specs.Put.{Put}
use Rattle.record_bits.specs.Layout.{Field, bits_of, width_of, bytes_for, packed}
use Rattle.record_bits.proofs.Fields.{bits-bit}
use Rattle.record_bits.proofs.Puts.{same_bits}
use Rattle.record_bits.proofs.Layouts.{length-packed, append-lt, packed_lt, packed-bit, packed-pad}

-- out is old with the bits of fs over its front
pub record Begun (old : List ℕ) (fs : List Field) (out : List ℕ) : Type 0 where
  pub same_length : length out ≡ length old
  pub written : (i : ℕ) → i < width_of fs → bit_at out i ≡ get_or (bits_of fs) i 0
  pub kept : (i : ℕ) → width_of fs ≤ i → bit_at out i ≡ bit_at old i

-- bit i of a field just written, by its place
put-bit : {mid out : List ℕ} {at w v : ℕ} → Put mid at w v out → (i : ℕ) → at ≤ i → i < at + w → bit_at out i ≡ v / 2 ^ (w - suc (i - at)) % 2
put-bit {out = out} {at = at} {w = w} q i l m =
    let e : i ≡ at + (i - at) = omega arith in
    ap (λ (k : ℕ). bit_at out k) e ∙ sym (bits-bit out at w (i - at) (omega arith)) ∙ ap (λ (x : ℕ). x / 2 ^ (w - suc (i - at)) % 2) q.inside

-- a bit of a list over the front of another, and one past it
bit-front : (xs ys : List ℕ) (i : ℕ) → i < 8 * length xs → bit_at (xs ++ ys) i ≡ bit_at xs i
unfolding bit_at
bit-front xs ys i l = rw (get_or-append xs ys 0 (i / 8) (omega arith))

bit-back : (xs ys : List ℕ) (i : ℕ) → 8 * length xs ≤ i → bit_at (xs ++ drop (length xs) ys) i ≡ bit_at ys i
unfolding bit_at
bit-back xs ys i l =
    let e : i / 8 ≡ length xs + (i / 8 - length xs) = omega arith in
    let g : get_or (xs ++ drop (length xs) ys) (i / 8) 0 ≡ get_or ys (i / 8) 0 =
    ap (λ (k : ℕ). get_or (xs ++ drop (length xs) ys) k 0) e ∙ get_or-append-add xs (drop (length xs) ys) (i / 8 - length xs) 0
    ∙ get_or-drop (length xs) ys (i / 8 - length xs) 0 ∙ ap (λ (k : ℕ). get_or ys k 0) (sym e) in
    ap (λ (x : ℕ). x / 2 ^ (7 - i % 8) % 2) g

-- the last bits up to a whole byte, written as a field of value 0
pub begun-end : {old mid out : List ℕ} (fs : List Field) {at pad : ℕ} → at ≡ width_of fs → at + pad ≡ 8 * bytes_for (width_of fs) → bytes_for (width_of fs)
    ≤ length old
    → ((j : ℕ) → get_or old j 0 < 256) → ((j : ℕ) → get_or out j 0 < 256) → Begun old fs mid → Put mid at pad 0 out → out ≡ over (packed fs) old
unfolding over
begun-end {old} {mid} {out} fs {at} {pad} e full room small-old small-out b q =
    same_bits out (packed fs ++ tail) len small-out (append-lt 256 (packed fs) tail (packed_lt fs)
    (λ j. rw (get_or-drop (length (packed fs)) old j 0) (small-old (length (packed fs) + j))))
    (λ i. bit i (dec_lt i at) (dec_lt i (at + pad)))
  where
    tail : List ℕ
    tail = drop (length (packed fs)) old

    len : length out ≡ length (packed fs ++ tail)
    len = omega (arith, length-append (packed fs) tail, length-drop (length (packed fs)) old, length-packed fs, q.same_length, b.same_length)

    -- a bit of the record, and one past it
    front : (i : ℕ) → i < at + pad → bit_at (packed fs ++ tail) i ≡ bit_at (packed fs) i
    front i l = bit-front (packed fs) tail i (omega (arith, length-packed fs))

    back : (i : ℕ) → at + pad ≤ i → bit_at (packed fs ++ tail) i ≡ bit_at old i
    back i l = bit-back (packed fs) old i (omega (arith, length-packed fs))

    bit : (i : ℕ) → Dec (i < at) → Dec (i < at + pad) → bit_at out i ≡ bit_at (packed fs ++ tail) i
    bit i (yes l) d = q.below i l ∙ b.written i (omega arith) ∙ sym (packed-bit fs i) ∙ sym (front i (omega arith))
    bit i (no f) (yes l) = put-bit q i (omega arith) l ∙ ap (λ (x : ℕ). x % 2) (zero-div (2 ^ (pad - suc (i - at)))) ∙ sym (packed-pad fs i (omega arith))
        ∙ sym (front i l)
    bit i (no f) (no g) = q.above i (omega arith) ∙ b.kept i (omega arith) ∙ sym (back i (omega arith))
