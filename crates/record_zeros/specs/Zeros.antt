-- Document 01, "Causes", of reading: cause 12, bit by bit.
use Rattle.std.specs.Prelude.{ℕ, ◌+◌, ◌-◌, ◌*◌, ◌%◌, Bool, not, ◌&&◌, ◌||◌, List, eqb, leb, ltb}
use Rattle.record_bits.specs.Field.{bit_at, bits_at}
use Rattle.record_layouts.specs.Layouts.{sign_bits, step_head_bits}

-- The bit at i. The zero bits are those that end the head, and those after the last field.
unfoldable pub zero_bit_good : List ℕ → ℕ → ℕ → ℕ → ℕ → Bool
zero_bit_good bs head_zeros head_end end i = not (eqb (bit_at bs i) 1 && ((leb (head_end - head_zeros) i && ltb i head_end) || leb end i))

-- the sign of a minus with size 0 stands at i, where a size has so many bits
unfoldable pub minus_zero : List ℕ → (value faces i : ℕ) → Bool
minus_zero bs value faces i =
    leb step_head_bits i && ltb i (step_head_bits + faces * (sign_bits + value)) && eqb ((i - step_head_bits) % (sign_bits + value)) 0
    && eqb (bits_at bs i sign_bits) 1 && eqb (bits_at bs (i + sign_bits) value) 0
