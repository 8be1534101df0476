-- A signed amount: its sign, its size, and the way back.
use Rattle.std.specs.Prelude.{ℕ, zero, suc, Bool, true, false, ℤ, pos, negsuc, neg_ℤ}

abbrev pub is_negative : ℤ → Bool
is_negative (pos n) = false
is_negative (negsuc n) = true

abbrev pub is_zero : ℤ → Bool
is_zero (pos zero) = true
is_zero (pos (suc n)) = false
is_zero (negsuc n) = false

abbrev pub size : ℤ → ℕ
size (pos n) = n
size (negsuc n) = suc n

-- how much of an amount through a face goes forward, from the first cell to the second, and how much back
abbrev pub forward : ℤ → ℕ
forward (pos n) = n
forward (negsuc n) = 0

abbrev pub backward : ℤ → ℕ
backward (pos n) = 0
backward (negsuc n) = suc n

-- the amount of size n, below 0 where the flag says so; 0 under either flag where n is 0
abbrev pub with_sign : Bool → ℕ → ℤ
with_sign false n = pos n
with_sign true n = neg_ℤ (pos n)

-- an amount through a face that is turned round, or not
abbrev pub turn : Bool → ℤ → ℤ
turn false z = z
turn true z = neg_ℤ z
