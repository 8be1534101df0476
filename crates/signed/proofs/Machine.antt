-- What the machine's signed operations make of a sign and a size. Assumes nothing.
use mathlib.Core.Path.{◌≡◌, refl, ap}
use mathlib.Core.Bool.{true, false}
use Prim.Native.Nat.{ℕ, zero, suc, ◌+◌, ◌-◌, ◌*◌, ◌^◌, ◌≤◌, ◌<◌, zero-le}
use native.Mathlib.Omega.{arith}
use borrow.Author.Tests.{le-ltb, lt-ltb}
use lib.Dec.{T}
use lib.IntN.{ℤ, pos, negsuc, neg_ℤ, ◌+ℤ◌, ◌-ℤ◌, ◌*ℤ◌}
use lib.Signed.{lt_z, non_neg}
use mir.Syntax.{w64}
use mir.Val.{SFits, to_z, of_z}
use mir.ValLaws.{to_z_pos, to_z-of_z}
use Rattle.signed.specs.Sign.{is_negative, size, forward, backward}
use Rattle.signed.proofs.Laws.{size-add, size-mul, size-diff}
use Rattle.signed.proofs.Turns.{size-turn, forward-turned, backward-turned}

-- the test `u < 0`
pub negative-test : (u : ℤ) → lt_z u (pos 0) ≡ is_negative u
negative-test (pos n) = le-ltb n 0 zero-le
negative-test (negsuc n) = refl

-- the test on the machine's bits
pub test : (u : ℤ) → SFits w64 u → lt_z (to_z w64 (of_z w64 u)) (pos 0) ≡ is_negative u
test u f = rw (to_z-of_z w64 u f) (negative-test u)

-- is_negative 0, the complement is one less than the size
pub flipped : (u : ℤ) → SFits w64 u → is_negative u ≡ true → to_z w64 (18446744073709551615 - of_z w64 u) ≡ pos (size u - 1)
flipped (pos n) f e = let z : ◌≡◌ {A = ℕ} 0 1 = cc in absurd (omega arith)
flipped (negsuc n) f e =
    let g : n < 2 ^ 63 = f.sfits in
    let q : 18446744073709551615 - (2 ^ 64 - suc n) ≡ n = omega arith in
    let q' : suc n - 1 ≡ n = omega arith in
    rw (q, q') (to_z_pos w64 n g)

pub size_small : (u : ℤ) → SFits w64 u → size u ≤ 2 ^ 63
size_small (pos n) f = let g : n < 2 ^ 63 = f.sfits in omega arith
size_small (negsuc n) f = let g : n < 2 ^ 63 = f.sfits in omega arith

pub size-pos : (u : ℤ) → is_negative u ≡ true → 0 < size u
size-pos (pos n) e = let z : ◌≡◌ {A = ℕ} 0 1 = cc in omega arith
size-pos (negsuc n) e = omega arith

pub at_least : (u : ℤ) → is_negative u ≡ false → T (non_neg u)
at_least (pos n) e = tt
at_least (negsuc n) e = let z : ◌≡◌ {A = ℕ} 0 1 = cc in absurd (omega arith)

-- `0 - v`, of a size that an i64 holds
pub minus : (n : ℕ) → n < 2 ^ 63 → pos 0 -ℤ pos n ≡ neg_ℤ (pos n)
minus zero h = refl
minus (suc n) h = rw (lt-ltb 0 (suc n) (omega arith)) (ap negsuc (omega arith))

pub minus-fits : (n : ℕ) → n < 2 ^ 63 → SFits w64 (neg_ℤ (pos n))
minus-fits zero h = record { sfits = omega arith }
minus-fits (suc n) h = record { sfits = omega arith }

-- what an i64 holds
pub fits-size : (u : ℤ) → size u < 2 ^ 63 → SFits w64 u
fits-size (pos n) h = record { sfits = h }
fits-size (negsuc n) h = record { sfits = omega arith }

-- `a + b`, of sizes that together an i64 holds
pub sum_fits : (a b : ℤ) → size a + size b < 2 ^ 63 → SFits w64 (a +ℤ b)
sum_fits a b h = fits-size (a +ℤ b) (omega (arith, size-add a b))

-- `a - b` likewise, and of numbers; `a * b`
pub difference-fits : (a b : ℤ) → size a + size b < 2 ^ 63 → SFits w64 (a -ℤ b)
difference-fits a b h = sum_fits a (neg_ℤ b) (rw (size-turn true b) h)

pub apart_fits : (a b : ℕ) → a < 2 ^ 63 → b < 2 ^ 63 → SFits w64 (pos a -ℤ pos b)
apart_fits a b h k = fits-size (pos a -ℤ pos b) (omega (arith, size-diff a b (2 ^ 63 - 1) (omega arith) (omega arith)))

pub product-fits : (a b : ℤ) → size a * size b < 2 ^ 63 → SFits w64 (a *ℤ b)
product-fits a b h = fits-size (a *ℤ b) (rw (size-mul a b) h)

-- a number and an amount, and a number less one, where that is a number
pub more-is : (n : ℕ) (z : ℤ) → backward z ≤ n → pos n +ℤ z ≡ pos (n + forward z - backward z)
more-is n (pos m) h = ap pos (omega arith)
more-is n (negsuc m) h = rw (le-ltb n (suc m) h) (ap pos (omega arith))

pub less-is : (n : ℕ) (z : ℤ) → forward z ≤ n → pos n -ℤ z ≡ pos (n + backward z - forward z)
less-is n z h = rw (← forward-turned z, ← backward-turned z) (more-is n (neg_ℤ z) (rw (backward-turned z) h))

pub number_fits : (n : ℕ) → n < 2 ^ 63 → SFits w64 (pos n)
number_fits n h = record { sfits = h }
