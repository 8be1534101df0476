-- Laws of fields, over the place and the width.
use mathlib.Core.Path.{◌≡◌, refl, sym, ap, ◌∙◌}
use mathlib.Core.List.{List}
use Prim.Native.Nat.{ℕ, zero, suc, ◌+◌, ◌-◌, ◌*◌, ◌/◌, ◌%◌, ◌^◌, ◌≤◌, ◌<◌}
use native.Mathlib.Nat.{pow-suc, pow-zero, mul_assoc, add-zero, add_assoc, mod-lt, add-suc, mod-one, zero-div, lt_of_lt_of_le}
use native.Mathlib.Numerals.{add-one}
use native.Mathlib.Omega.{arith}
use lib.ListN.{length, get_or, drop, get_or-eq_default}
use lib.Seq.{get_or-drop}
use lib.Pow.{pow_mono, mod-pow-add, shr-shr, high}
use Rattle.record_bits.specs.Field.{bit_at, bits_at}

pub bit-lt : (bs : List ℕ) (i : ℕ) → bit_at bs i < 2
unfolding bit_at
bit-lt bs i = mod-lt _ (omega arith)

pub bit_past : (bs : List ℕ) (i : ℕ) → 8 * length bs ≤ i → bit_at bs i ≡ 0
unfolding bit_at
bit_past bs i l = rw (get_or-eq_default bs 0 {n = i / 8} (omega arith), zero-div)

pub bits-zero : (bs : List ℕ) (at : ℕ) → bits_at bs at 0 ≡ 0
unfolding bits_at
bits-zero bs at = refl

pub bits-lt : (bs : List ℕ) (at w : ℕ) → bits_at bs at w < 2 ^ w
unfolding bits_at
bits-lt bs at zero = omega arith
bits-lt bs at (suc w) = rw (pow-suc 2 w) (omega (arith, bits-lt bs at w, bit-lt bs (at + w)))

-- a field is its front and its rest
pub bits-split : (bs : List ℕ) (at w k : ℕ) → bits_at bs at (w + k) ≡ bits_at bs at w * 2 ^ k + bits_at bs (at + w) k
unfolding bits_at
bits-split bs at w zero = rw (add-zero w, pow-zero 2) (omega arith)
bits-split bs at w (suc k) =
    let ih = bits-split bs at w k in
    let e : at + (w + k) ≡ at + w + k = omega arith in
    rw (add-suc w k, pow-suc 2 k, ← mul_assoc (bits_at bs at w) (2 ^ k) 2, ih, e) (omega arith)

-- k bits on within a byte: the byte is the same, and so many bits stand below
module _ (p k : ℕ) (h : p % 8 + suc k ≤ 8) where
  same_byte : (p + k) / 8 ≡ p / 8
  same_byte = omega arith

  bit_below : 7 - (p + k) % 8 ≡ 8 - p % 8 - suc k
  bit_below = omega arith

  bits_below : 8 - p % 8 - k ≡ 8 - p % 8 - suc k + 1
  bits_below = omega arith

-- a field within one byte
pub bits-byte : (bs : List ℕ) (p k : ℕ) → p % 8 + k ≤ 8 → bits_at bs p k ≡ get_or bs (p / 8) 0 / 2 ^ (8 - p % 8 - k) % 2 ^ k
unfolding bits_at bit_at
bits-byte bs p zero h = rw (pow-zero 2) (sym (mod-one _))
bits-byte bs p (suc k) h =
    let x : ℕ = get_or bs (p / 8) 0 in
    let e : ℕ = 8 - p % 8 - suc k in
    let e₁ : 8 - p % 8 - k ≡ e + 1 = bits_below p k h in
    let e₂ : (p + k) / 8 ≡ p / 8 = same_byte p k h in
    let e₃ : 7 - (p + k) % 8 ≡ e = bit_below p k h in
    let a : bits_at bs p k ≡ x / 2 ^ e / 2 ^ 1 % 2 ^ k = bits-byte bs p k (omega arith) ∙ ap (λ (j : ℕ). x / 2 ^ j % 2 ^ k) e₁
    ∙ ap (λ (j : ℕ). j % 2 ^ k) (sym (shr-shr x e 1)) in
    let b : bit_at bs (p + k) ≡ x / 2 ^ e % 2 ^ 1 = rw (e₂, e₃) in
    let m : x / 2 ^ e % 2 ^ suc k ≡ (x / 2 ^ e / 2 ^ 1 % 2 ^ k) * 2 ^ 1 + x / 2 ^ e % 2 ^ 1 = ap (λ (j : ℕ). x / 2 ^ e % 2 ^ j) (sym (add-one k))
    ∙ mod-pow-add (x / 2 ^ e) k 1 in
    rw (a, b, m) (omega arith)

-- a field fits where a wider one does
pub bits_fit : (bs : List ℕ) (at : ℕ) {k w : ℕ} → k ≤ w → bits_at bs at k < 2 ^ w
bits_fit bs at l = lt_of_lt_of_le (bits-lt bs at _) (pow_mono l)

-- bit i of a field
pub bits-bit : (bs : List ℕ) (at w i : ℕ) → i < w → bits_at bs at w / 2 ^ (w - suc i) % 2 ≡ bit_at bs (at + i)
unfolding bits_at
bits-bit bs at w i l =
    let k : ℕ = w - suc i in
    let e : suc i + k ≡ w = omega arith in
    let a : bits_at bs at w ≡ bits_at bs at (suc i) * 2 ^ k + bits_at bs (at + suc i) k = ap (λ (j : ℕ). bits_at bs at j) (sym e) ∙ bits-split bs at (suc i) k in
    let b : bits_at bs at w / 2 ^ k ≡ bits_at bs at (suc i) = ap (λ (j : ℕ). j / 2 ^ k) a ∙ high (bits_at bs at (suc i)) k (bits-lt bs (at + suc i) k) in
    rw b (omega (arith, bit-lt bs (at + i)))

-- a field of one bit is that bit
pub one_bit : (bs : List ℕ) (i : ℕ) → bits_at bs i 1 ≡ bit_at bs i
unfolding bits_at
one_bit bs i = rw (add-zero i) (omega arith)

-- a field of 0 has no bit set, and a field without one is 0
pub zero_bits : (bs : List ℕ) (at w : ℕ) → bits_at bs at w ≡ 0 → (i : ℕ) → at ≤ i → i < at + w → bit_at bs i ≡ 0
zero_bits bs at w e i l m =
    let p : at + (i - at) ≡ i = omega arith in
    ap (λ (k : ℕ). bit_at bs k) (sym p) ∙ sym (bits-bit bs at w (i - at) (omega arith)) ∙ ap (λ (x : ℕ). x / 2 ^ (w - suc (i - at)) % 2) e
    ∙ ap (λ (x : ℕ). x % 2) (zero-div (2 ^ (w - suc (i - at))))

pub zero_field : (bs : List ℕ) (at w : ℕ) → ((i : ℕ) → at ≤ i → i < at + w → bit_at bs i ≡ 0) → bits_at bs at w ≡ 0
unfolding bits_at
zero_field bs at zero h = refl
zero_field bs at (suc w) h = rw (zero_field bs at w (λ i l m. h i l (omega arith)), h (at + w) (omega arith) (omega arith))

-- fields of the bytes from byte n on
bit-drop : (n : ℕ) (bs : List ℕ) (i : ℕ) → bit_at (drop n bs) i ≡ bit_at bs (8 * n + i)
unfolding bit_at
bit-drop n bs i =
    let e : (8 * n + i) / 8 ≡ n + i / 8 = omega arith in
    let m : (8 * n + i) % 8 ≡ i % 8 = omega arith in
    rw (get_or-drop n bs (i / 8) 0, e, m)

pub bits-drop : (n : ℕ) (bs : List ℕ) (at w : ℕ) → bits_at (drop n bs) at w ≡ bits_at bs (8 * n + at) w
unfolding bits_at
bits-drop n bs at zero = refl
bits-drop n bs at (suc w) = rw (bits-drop n bs at w, bit-drop n bs (at + w), add_assoc (8 * n) at w)
