-- Text read back: numbers in their columns, lines of one length.
use Rattle.std.specs.Prelude.{ℕ, ◌+◌, ◌-◌, ◌*◌, cond, List, [], ◌∷◌, eqb, take, drop}
use Rattle.text.specs.Digits.{nought}
use Rattle.text.specs.Lines.{space}

-- What a byte counts for; a space in front of a number counts for nothing.
abbrev pub digit_of : ℕ → ℕ
digit_of b = cond (eqb b space) 0 (b - nought)

-- The number that bytes spell, after so much of it.
unfoldable pub read_digits : ℕ → List ℕ → ℕ
read_digits before [] = before
read_digits before (b ∷ bs) = read_digits (10 * before + digit_of b) bs

-- The number in the columns from a place on.
unfoldable pub number_in : List ℕ → ℕ → ℕ → ℕ
number_in bytes at width = read_digits 0 (take width (drop at bytes))

-- Line i, from 0, of lines of one length.
unfoldable pub line_at : ℕ → ℕ → List ℕ → List ℕ
line_at long i bytes = take long (drop (i * long) bytes)
