-- Packing undoes reading: fields read from bytes, one after another, are packed into the same bytes.
use mathlib.Core.Path.{◌≡◌, sym, ap, ◌∙◌}
use mathlib.Core.List.{List, [], ◌∷◌, ◌++◌}
use Prim.Native.Nat.{ℕ, zero, suc, ◌+◌, ◌-◌, ◌*◌, ◌/◌, ◌%◌, ◌^◌, ◌≤◌, ◌<◌}
use native.Mathlib.Nat.{add-zero, add_assoc}
use native.Mathlib.Decide.{dec_lt}
use native.Mathlib.Omega.{arith}
use lib.ListN.{length, get_or, get_or-append, get_or-eq_default}
use lib.Seq.{get_or-append-add}
use Rattle.record_bits.specs.Field.{bit_at, bits_at}
use Rattle.record_bits.specs.Layout.{Field, spelled, bits_of, width_of, bytes_for, packed, rows}
use Rattle.record_bits.proofs.Fields.{bits-bit, bit_past}
use Rattle.record_bits.proofs.Puts.{same_bits}
use Rattle.record_bits.proofs.Layouts.{length-spelled, spelled-bit, length-bits, length-packed, packed_lt, packed-bit}

-- each field's value is what the bits at its place spell; the first place is `at`
pub data ReadFrom (bs : List ℕ) : ℕ → List Field → Type 0 where
  read_none : {at : ℕ} → ReadFrom bs at []
  read_more : {at : ℕ} {f : Field} {fs : List Field} → f.value ≡ bits_at bs at f.width → ReadFrom bs (at + f.width) fs → ReadFrom bs at (f ∷ fs)

pub read-append : {bs : List ℕ} {at : ℕ} {a : List Field} (b : List Field) → ReadFrom bs at a → ReadFrom bs (at + width_of a) b → ReadFrom bs at (a ++ b)
unfolding width_of
read-append b (read_none {at = at}) q = rw (add-zero at) at q
read-append b (read_more {at = at} {f = f} {fs = fs} e r) q = read_more e (read-append b r (rw (add_assoc at f.width (width_of fs)) q))

pub read-rows : {bs : List ℕ} {at : ℕ} (n : ℕ) (g : ℕ → List Field) → ((i : ℕ) → i < n → ReadFrom bs (at + width_of (rows i g)) (g i))
    → ReadFrom bs at (rows n g)
unfolding rows
read-rows zero g h = read_none
read-rows (suc n) g h = read-append (g n) (read-rows n g (λ i l. h i (omega arith))) (h n (omega arith))

-- the fields' bits are the bits there
pub read-bit : {bs : List ℕ} {at : ℕ} {fs : List Field} → ReadFrom bs at fs → (i : ℕ) → i < width_of fs → get_or (bits_of fs) i 0 ≡ bit_at bs (at + i)
unfolding bits_of width_of
read-bit read_none i l = absurd (omega arith)
read-bit {bs} (read_more {at = at} {f = f} {fs = fs} e r) i l = go (dec_lt i w) (read-bit r (i - f.width))
  where
    w : ℕ
    w = f.width

    go : Dec (i < w) → (i - w < width_of fs → get_or (bits_of fs) (i - w) 0 ≡ bit_at bs (at + w + (i - w))) → get_or (spelled w f.value ++ bits_of fs) i 0
        ≡ bit_at bs (at + i)
    go (yes m) ih =
        get_or-append (spelled w f.value) (bits_of fs) 0 i (rw (length-spelled w f.value) m) ∙ spelled-bit w f.value i m
        ∙ ap (λ (x : ℕ). x / 2 ^ (w - suc i) % 2) e ∙ bits-bit bs at w i m
    go (no f') ih =
        let p : i ≡ length (spelled w f.value) + (i - w) = omega (arith, length-spelled w f.value) in
        let q : at + w + (i - w) ≡ at + i = omega arith in
        ap (λ (k : ℕ). get_or (spelled w f.value ++ bits_of fs) k 0) p ∙ get_or-append-add (spelled w f.value) (bits_of fs) (i - w) 0
        ∙ ih (omega arith) ∙ ap (λ (k : ℕ). bit_at bs k) q

pub pack-read : (bs : List ℕ) (fs : List Field) → ReadFrom bs 0 fs → length bs ≡ bytes_for (width_of fs) → ((j : ℕ) → get_or bs j 0 < 256)
    → ((i : ℕ) → width_of fs ≤ i → i < 8 * length bs → bit_at bs i ≡ 0) → packed fs ≡ bs
pack-read bs fs r len small pad = same_bits (packed fs) bs (length-packed fs ∙ sym len) (packed_lt fs) small
    (λ i. packed-bit fs i ∙ bit i (dec_lt i (width_of fs)) (dec_lt i (8 * length bs)))
  where
    past : (i : ℕ) → width_of fs ≤ i → get_or (bits_of fs) i 0 ≡ 0
    past i l = get_or-eq_default (bits_of fs) 0 (rw (length-bits fs) l)

    bit : (i : ℕ) → Dec (i < width_of fs) → Dec (i < 8 * length bs) → get_or (bits_of fs) i 0 ≡ bit_at bs i
    bit i (yes l) d = let z : 0 + i ≡ i = omega arith in rw z at (read-bit r i l)
    bit i (no f) (yes m) = past i (omega arith) ∙ sym (pad i (omega arith) m)
    bit i (no f) (no g) = past i (omega arith) ∙ sym (bit_past bs i (omega arith))
