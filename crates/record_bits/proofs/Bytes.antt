-- A field by the bytes that it touches: how many they are, their bits as one number, and the field within it.
use mathlib.Core.Path.{◌≡◌, sym, ap, ◌∙◌}
use mathlib.Core.List.{List}
use Prim.Native.Nat.{ℕ, zero, suc, ◌+◌, ◌-◌, ◌*◌, ◌/◌, ◌%◌, ◌^◌, ◌≤◌, ◌<◌}
use native.Mathlib.Omega.{arith}
use lib.ListN.{get_or}
use lib.Pow.{high, low}
use Rattle.record_bits.specs.Field.{bits_at}
use Rattle.record_bits.specs.Touched.{touched}
use Rattle.record_bits.proofs.Fields.{bits-lt, bits-split, bits_fit}
use Rattle.record_bits.proofs.Puts.{byte-bits}

-- from the byte of its first bit to the byte of its last
pub touched-is : (b w : ℕ) → 0 < w → (b + w - 1) / 8 + 1 - b / 8 ≡ touched b w
unfolding touched
touched-is b zero l = absurd (omega arith)
touched-is b (suc w) l = omega arith

-- a reader's turns by those bytes: in each one of them is left, and after the last the field's last byte is read
module _ (b w : ℕ) (some : 0 < w) (k : ℕ) where
  pub turn-within : k < (b + w - 1) / 8 + 1 - b / 8 → k + 1 ≤ touched b w
  turn-within l = omega (arith, touched-is b w some)

  pub turn-less : k < (b + w - 1) / 8 + 1 - b / 8 → touched b w - (k + 1) < touched b w - k
  turn-less l = omega (arith, touched-is b w some)

  pub turns-end : (b + w - 1) / 8 + 1 - b / 8 ≤ k → k ≤ touched b w → b / 8 + k ≡ (b + w - 1) / 8 + 1
  turns-end l m = omega (arith, touched-is b w some)

-- a reader's turn: k bytes from byte j on are read as one number, and the next one joins it
pub bits-more : (bs : List ℕ) (j k : ℕ) {v x : ℕ} → get_or bs (j + k) 0 < 256 → v ≡ bits_at bs (j * 8) (k * 8) → x ≡ get_or bs (j + k) 0 → 256 * v + x
    ≡ bits_at bs (j * 8) ((k + 1) * 8)
bits-more bs j k {v} {x} small e f =
    let p : (k + 1) * 8 ≡ k * 8 + 8 = omega arith in
    let q : j * 8 + k * 8 ≡ (j + k) * 8 = omega arith in
    let b : bits_at bs (j * 8 + k * 8) 8 ≡ x = ap (λ (i : ℕ). bits_at bs i 8) q ∙ byte-bits bs (j + k) small ∙ sym f in
    rw (p, bits-split bs (j * 8) (k * 8) 8, b, ← e) (omega arith)

-- before the last of eight turns seven are read at most
pub joined-room : (bs : List ℕ) (j k : ℕ) {v : ℕ} → k < 8 → v ≡ bits_at bs (j * 8) (k * 8) → v < 2 ^ 56
joined-room bs j k l e = rw e (bits_fit bs (j * 8) {k = k * 8} {w = 56} (omega arith))

-- a field within a wider one, which has a bits above it and s below it
pub bits-within : (bs : List ℕ) (p a w s : ℕ) → bits_at bs p (a + w + s) / 2 ^ s % 2 ^ w ≡ bits_at bs (p + a) w
bits-within bs p a w s =
    ap (λ (x : ℕ). x / 2 ^ s % 2 ^ w) (bits-split bs p (a + w) s)
    ∙ ap (λ (x : ℕ). x % 2 ^ w) (high (bits_at bs p (a + w)) s (bits-lt bs (p + (a + w)) s) ∙ bits-split bs p a w)
    ∙ low (bits_at bs p a) w (bits-lt bs (p + a) w)

-- three fields of w bits read as one
pub three-within : (bs : List ℕ) (p w : ℕ) {x : ℕ} → x ≡ bits_at bs p (3 * w)
    → (x / 2 ^ (2 * w) % 2 ^ w ≡ bits_at bs p w) × (x / 2 ^ w % 2 ^ w ≡ bits_at bs (p + w) w) × (x / 2 ^ 0 % 2 ^ w ≡ bits_at bs (p + 2 * w) w)
three-within bs p w {x} e =
    let a : 3 * w ≡ 0 + w + 2 * w = omega arith in
    let b : 3 * w ≡ w + w + w = omega arith in
    let d : 3 * w ≡ 2 * w + w + 0 = omega arith in
    let z : p + 0 ≡ p = omega arith in (
      ap (λ (n : ℕ). n / 2 ^ (2 * w) % 2 ^ w) (e ∙ ap (λ (n : ℕ). bits_at bs p n) a) ∙ bits-within bs p 0 w (2 * w) ∙ ap (λ (n : ℕ). bits_at bs n w) z,
      ap (λ (n : ℕ). n / 2 ^ w % 2 ^ w) (e ∙ ap (λ (n : ℕ). bits_at bs p n) b) ∙ bits-within bs p w w w,
      ap (λ (n : ℕ). n / 2 ^ 0 % 2 ^ w) (e ∙ ap (λ (n : ℕ). bits_at bs p n) d) ∙ bits-within bs p (2 * w) w 0,
    )

-- a reader's end: the n bytes from byte p on are read, the last of them the field's last, and the field begins within them
pub bits-ending : (bs : List ℕ) (at w p n : ℕ) {v : ℕ} → 0 < w → p + n ≡ (at + w - 1) / 8 + 1 → p * 8 ≤ at → v ≡ bits_at bs (p * 8) (n * 8)
    → v / 2 ^ (7 - (at + w - 1) % 8) % 2 ^ w ≡ bits_at bs at w
bits-ending bs at w p n some ends starts f =
    let s : ℕ = 7 - (at + w - 1) % 8 in
    let a : ℕ = at - p * 8 in
    let e : n * 8 ≡ a + w + s = omega arith in
    let q : p * 8 + a ≡ at = omega arith in
    rw (f, e, bits-within bs (p * 8) a w s, q)
