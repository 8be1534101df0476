-- Sums, least and greatest values over the indices below a count.
use Rattle.std.specs.Prelude.{ℕ, zero, suc, ◌+◌, min, max}

-- f 0 + .. + f (n - 1)
unfoldable pub sum : ℕ → (ℕ → ℕ) → ℕ
sum zero f = 0
sum (suc n) f = sum n f + f n

-- the least of start, f 0, .., f (n - 1)
unfoldable pub least : ℕ → ℕ → (ℕ → ℕ) → ℕ
least zero start f = start
least (suc n) start f = min (least n start f) (f n)

-- the greatest of start, f 0, .., f (n - 1)
unfoldable pub greatest : ℕ → ℕ → (ℕ → ℕ) → ℕ
greatest zero start f = start
greatest (suc n) start f = max (greatest n start f) (f n)
