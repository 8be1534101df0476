-- A number as text.
use Rattle.std.specs.Prelude.{ℕ, zero, suc, ◌+◌, ◌/◌, ◌%◌, cond, List, [], ◌∷◌, ◌++◌, ltb}

-- The code of the digit 0; the others follow it.
abbrev pub nought : ℕ
nought = 48

-- A number below 10 ^ width in decimal digits, with no zero in front.
unfoldable pub digits : ℕ → ℕ → List ℕ
digits zero n = []
digits (suc width) n = cond (ltb n 10) ((nought + n) ∷ []) (digits width (n / 10) ++ ((nought + n % 10) ∷ []))

-- 20 digits hold every 64-bit number.
abbrev pub most_digits : ℕ
most_digits = 20
