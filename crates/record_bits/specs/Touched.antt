-- Document 02, S-3: the bytes that a packed field touches. Cited by the number that falls in the loop of `read_bits`.
use Rattle.std.specs.Prelude.{ℕ, zero, suc, ◌+◌, ◌-◌, ◌/◌}

-- a field of w bits from bit b on: from the byte of its first bit to the byte of its last one; no bits touch no byte
unfoldable pub touched : ℕ → ℕ → ℕ
touched b zero = 0
touched b (suc w) = (b + w) / 8 - b / 8 + 1
