-- Document 01, "Record layouts", its first sentence: a field of a list of bytes is the number that its bits spell, the highest first.
use Rattle.std.specs.Prelude.{List, ℕ, zero, suc, ◌+◌, ◌-◌, ◌*◌, ◌/◌, ◌%◌, ◌^◌, get_or}

-- the bit at i, counted from the first byte's highest; past the end it is 0
unfoldable pub bit_at : List ℕ → ℕ → ℕ
bit_at bs i = get_or bs (i / 8) 0 / 2 ^ (7 - i % 8) % 2

-- the number that the w bits from `at` on spell
unfoldable pub bits_at : List ℕ → ℕ → ℕ → ℕ
bits_at bs at zero = 0
bits_at bs at (suc w) = 2 * bits_at bs at w + bit_at bs (at + w)

-- the widest field of a record
abbrev pub widest : ℕ
widest = 40
