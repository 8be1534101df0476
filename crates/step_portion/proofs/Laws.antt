-- A number n of p's is q·p + r with r below p. What the halves of a product come to in these numbers.
use Prim.Native.Nat.{ℕ, ◌+◌, ◌*◌, ◌/◌, ◌%◌, ◌^◌, ◌≤◌, ◌<◌}
use mathlib.Core.Path.{◌≡◌, sym}
use mathlib.Core.Logic.{◌≢◌}
use native.Mathlib.Nat.{mul-le-mul_left, mul-le-mul_right, le_of_mul-le-mul_right, div-eq_of_lt-le, div-add-mod', div-mul-le_self}
use native.Mathlib.Omega.{arith}

-- p goes into h times g no more than h times, where g is below p
pub quotient-most : (q r p h g : ℕ) → q * p + r ≡ h * g → g < p → q ≤ h
quotient-most q r p h g e l = let k : g ≤ p = omega arith in le_of_mul-le-mul_right {k = p} (omega (arith, mul-le-mul_left h k)) (omega arith)

-- what is left below p, the rest goes into the quotient
pub quotient_is : (q r p n : ℕ) → q * p + r ≡ n → r < p → q ≡ n / p
quotient_is q r p n e l = sym (div-eq_of_lt-le {k = q} p (omega arith) (omega arith))

-- n is twice the product of half of a, and one g more where a is odd
pub even_is : (a g h n : ℕ) → n ≡ 2 * h → h ≡ a / 2 * g → a % 2 ≡ 0 → n ≡ a * g
even_is a g h n d e z = let k : a ≡ a / 2 * 2 = omega (arith, div-add-mod' a 2) in rw k (go (a / 2) e)
  where
    go : (k : ℕ) → h ≡ k * g → n ≡ k * 2 * g
    go k q = omega arith

pub odd_is : (a g h m n : ℕ) → n ≡ m + g → m ≡ 2 * h → h ≡ a / 2 * g → a % 2 ≢ 0 → n ≡ a * g
odd_is a g h m n r d e z = let k : a ≡ a / 2 * 2 + 1 = omega (arith, div-add-mod' a 2) in rw k (go (a / 2) e)
  where
    go : (k : ℕ) → h ≡ k * g → n ≡ (k * 2 + 1) * g
    go k q = omega arith

-- no more than few times g fits where few times g does
pub product-fits : (a g few : ℕ) → a ≤ few → few * g < 2 ^ 64 → a * g < 2 ^ 64
product-fits a g few h k = omega (arith, mul-le-mul_right g h)

-- the part of the largest number that one more than g gives, g times
pub part-fits : (g : ℕ) → 18446744073709551615 / (g + 1) * g < 2 ^ 64
part-fits g = let l : g ≤ g + 1 = omega arith in
    omega (arith, div-mul-le_self 18446744073709551615 (g + 1), mul-le-mul_left (18446744073709551615 / (g + 1)) l)

-- half of a number, and what is asked of the quotients on the way
pub half-less : (a few : ℕ) → few < a → a / 2 < a
half-less a few h = omega (arith, div-add-mod' a 2)

pub half-asks : (q r p a g : ℕ) → a < 2 ^ 64 → g < p → (q * p + r ≡ a / 2 * g) × (r < p) → (r < p) × (q < 2 ^ 63)
half-asks q r p a g h l e = (e.1, omega (arith, quotient-most q r p (a / 2) g e.0 l, div-add-mod' a 2))

pub odd-asks : (q r q₁ r₁ p a g : ℕ) → a < 2 ^ 64 → g < p → a % 2 ≢ 0 → q₁ * p + r₁ ≡ a / 2 * g → (q * p + r ≡ 2 * (q₁ * p + r₁)) × (r < p)
    → (r < p) × (g < p) × (q + 1 < 2 ^ 64)
odd-asks q r q₁ r₁ p a g h l z e d = (d.1, l, omega (arith, quotient-most q r p (2 * (a / 2)) g (omega (arith, d.0, e)) l, div-add-mod' a 2))
