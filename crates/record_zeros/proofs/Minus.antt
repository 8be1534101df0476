-- A minus of size 0 by its sign and size as one number, one face or three at a time.
use Prim.Native.Nat.{ℕ, zero, suc, ◌+◌, ◌*◌, ◌/◌, ◌%◌, ◌^◌, ◌≤◌, ◌<◌}
use mathlib.Core.Path.{◌≡◌, refl, sym, ap, ◌∙◌}
use mathlib.Core.Bool.{Bool, true, false, ◌&&◌, ◌||◌, true≢false}
use mathlib.Core.List.{List}
use native.Mathlib.Nat.{add-mul}
use native.Mathlib.Omega.{arith}
use native.Mathlib.Decide.{dec_lt}
use borrow.Author.Tests.{eq-eqb, ne_eqb}
use lib.Dec.{eqb}
use Rattle.lists.proofs.Tests.{Same, same, other, same?}
use Rattle.record_bits.specs.Field.{bits_at}
use Rattle.record_bits.proofs.Fields.{bits-lt, bits-split}
use Rattle.record_bits.proofs.Bytes.{three-within}
use Rattle.record_layouts.specs.Layouts.{sign_bits, step_head_bits}
use Rattle.record_zeros.specs.Zeros.{minus_zero}
use Rattle.record_zeros.specs.Scans.{NoMinus, one_of_three}
use Rattle.record_zeros.proofs.ZeroLaws.{face-room, minus-at}

-- a sign and a size below u as one number: a minus of size 0 is u
minus_is : (s u z : ℕ) → s < 2 → z < u → eqb (s * u + z) u ≡ (eqb s 1 && eqb z 0)
minus_is zero u z l m = ne_eqb (zero * u + z) u (λ e. absurd (omega arith))
minus_is (suc zero) u zero l m = eq-eqb (suc zero * u + zero) u (omega arith)
minus_is (suc zero) u (suc z) l m = ne_eqb (suc zero * u + suc z) u (λ e. absurd (omega arith)) ∙ sym (ne_eqb (suc z) 0 (λ e. absurd (omega arith)))
minus_is (suc (suc s)) u z l m = absurd (omega arith)

pub minus-code : (bs : List ℕ) (at value : ℕ) {x : ℕ} → x ≡ bits_at bs at (sign_bits + value)
    → eqb x (2 ^ value) ≡ (eqb (bits_at bs at sign_bits) 1 && eqb (bits_at bs (at + sign_bits) value) 0)
minus-code bs at value e =
    rw (e, bits-split bs at sign_bits value) (minus_is (bits_at bs at sign_bits) (2 ^ value) (bits_at bs (at + sign_bits) value) (bits-lt bs at sign_bits)
    (bits-lt bs (at + sign_bits) value))

-- a search's turn with three faces
none_of : (a b d : Bool) → (a || b || d) ≡ false → (a ≡ false) × (b ≡ false) × (d ≡ false)
none_of true b d e = absurd (true≢false e)
none_of false true d e = absurd (true≢false e)
none_of false false d e = (refl, refl, e)

module _ (bs : List ℕ) (value faces f : ℕ) (room : f + 2 < faces) where
  abbrev plain_at : ℕ → Type 0
  plain_at k = minus_zero bs value faces (step_head_bits + k * (sign_bits + value)) ≡ false

  abbrev there : ℕ
  there = step_head_bits + f * (sign_bits + value)

  pub three-plain : {x : ℕ} → x ≡ bits_at bs there (3 * (sign_bits + value)) → one_of_three x (sign_bits + value) (2 ^ value) ≡ false → NoMinus bs value faces f
      → NoMinus bs value faces (f + 3)
  unfolding one_of_three
  three-plain {x} e none before k l = go (dec_lt k f) (same? k f) (same? k (f + 1))
    where
      b : ℕ
      b = sign_bits + value

      t : (x / 2 ^ (2 * b) % 2 ^ b ≡ bits_at bs there b) × (x / 2 ^ b % 2 ^ b ≡ bits_at bs (there + b) b) × (x / 2 ^ 0 % 2 ^ b ≡ bits_at bs (there + 2 * b) b)
      t = three-within bs there b e

      n : (eqb (x / 2 ^ (2 * b) % 2 ^ b) (2 ^ value) ≡ false) × (eqb (x / 2 ^ b % 2 ^ b) (2 ^ value) ≡ false) × (eqb (x / 2 ^ 0 % 2 ^ b) (2 ^ value) ≡ false)
      n = none_of _ _ _ none

      plain : (j : ℕ) {y : ℕ} → j < faces → y ≡ bits_at bs (step_head_bits + j * b) b → eqb y (2 ^ value) ≡ false → plain_at j
      plain j m d g = minus-at bs value faces j m ∙ sym (minus-code bs (step_head_bits + j * b) value d) ∙ g

      one : there + b ≡ step_head_bits + (f + 1) * b
      one = omega (arith, add-mul f 1 b)

      two : there + 2 * b ≡ step_head_bits + (f + 2) * b
      two = omega (arith, add-mul f 2 b)

      go : {c d : Bool} → Dec (k < f) → Same k f c → Same k (f + 1) d → plain_at k
      go (yes m) p q = before k m
      go (no m) (same p) q = rw p (plain f (omega arith) t.0 n.0)
      go (no m) (other p) (same q) = rw q (plain (f + 1) (omega arith) (t.1 ∙ ap (λ (i : ℕ). bits_at bs i b) one) n.1)
      go (no m) (other p) (other q) = let w : k ≡ f + 2 = omega arith in rw w (plain (f + 2) room (t.2 ∙ ap (λ (i : ℕ). bits_at bs i b) two) n.2)

-- three faces among so many stand within the record
pub three-room : (b f faces n : ℕ) → f + 2 < faces → step_head_bits + faces * b ≤ n → step_head_bits + f * b + 3 * b ≤ n
three-room b f faces n l h = omega (arith, face-room b (f + 2) faces n l h, add-mul f 2 b)
