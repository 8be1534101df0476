-- Cited by the contracts of inner functions only: no promise of the crate rests on these.
use Rattle.std.specs.Prelude.{◌≡◌, Bool, true, false, ◌||◌, List, ℕ, ◌+◌, ◌*◌, ◌/◌, ◌%◌, ◌^◌, ◌≤◌, ◌<◌, eqb}
use Rattle.record_bits.specs.Field.{bit_at}
use Rattle.record_layouts.specs.Layouts.{step_head_bits, sign_bits}
use Rattle.record_zeros.specs.Zeros.{minus_zero}

-- r is the first bit set from `from` on, or `to`
pub record FirstSet (bs : List ℕ) (from to r : ℕ) : Type 0 where
  pub start : from ≤ r
  pub end : r ≤ to
  pub clear : (i : ℕ) → from ≤ i → i < r → bit_at bs i ≡ 0
  pub set : r < to → bit_at bs r ≡ 1

-- the faces below r have no minus with size 0
abbrev pub NoMinus : List ℕ → (value faces r : ℕ) → Type 0
NoMinus bs value faces r = (f : ℕ) → f < r → minus_zero bs value faces (step_head_bits + f * (sign_bits + value)) ≡ false

-- one of three fields of w bits, read as one number, is m
unfoldable pub one_of_three : (x w m : ℕ) → Bool
one_of_three x w m = eqb (x / 2 ^ (2 * w) % 2 ^ w) m || eqb (x / 2 ^ w % 2 ^ w) m || eqb (x / 2 ^ 0 % 2 ^ w) m

-- r is the first face with a minus and size 0, or `faces`
pub record FirstMinus (bs : List ℕ) (value faces r : ℕ) : Type 0 where
  pub end : r ≤ faces
  pub plain : NoMinus bs value faces r
  pub minus : r < faces → minus_zero bs value faces (step_head_bits + r * (sign_bits + value)) ≡ true
