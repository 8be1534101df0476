-- The four fields of a face, out of the number that they spell together.
use mathlib.Core.Path.{◌≡◌, ap, ◌∙◌}
use mathlib.Core.List.{List}
use Prim.Native.Nat.{ℕ, ◌+◌, ◌*◌, ◌/◌, ◌%◌, ◌^◌}
use native.Mathlib.Omega.{arith}
use Rattle.record_bits.specs.Field.{bits_at}
use Rattle.record_bits.proofs.Bytes.{bits-within}
use Rattle.record_layouts.specs.Layouts.{face_of, end_bits, share_bits}

pub row_is : (bs : List ℕ) (first v f : ℕ) {x : ℕ} → x ≡ bits_at bs (first + f * face_of v) (face_of v)
    → (x / 2 ^ (v + share_bits + end_bits) % 2 ^ end_bits ≡ bits_at bs (first + f * face_of v) end_bits)
    × (x / 2 ^ (v + share_bits) % 2 ^ end_bits ≡ bits_at bs (first + end_bits + f * face_of v) end_bits)
    × (x / 2 ^ v % 2 ^ share_bits ≡ bits_at bs (first + end_bits + end_bits + f * face_of v) share_bits)
    × (x / 2 ^ 0 % 2 ^ v ≡ bits_at bs (first + end_bits + end_bits + share_bits + f * face_of v) v)
row_is bs first v f {x} e = (
  part 0 end_bits (v + share_bits + end_bits) (omega arith) (omega arith),
  part end_bits end_bits (v + share_bits) (omega arith) (omega arith),
  part (end_bits + end_bits) share_bits v (omega arith) (omega arith),
  part (end_bits + end_bits + share_bits) v 0 (omega arith) (omega arith),
)
  where
    -- w bits with a above them and s below
    part : (a w s : ℕ) {p : ℕ} → face_of v ≡ a + w + s → first + f * face_of v + a ≡ p → x / 2 ^ s % 2 ^ w ≡ bits_at bs p w
    part a w s q d =
        ap (λ (n : ℕ). n / 2 ^ s % 2 ^ w) (e ∙ ap (λ (n : ℕ). bits_at bs (first + f * face_of v) n) q) ∙ bits-within bs (first + f * face_of v) a w s
        ∙ ap (λ (n : ℕ). bits_at bs n w) d
