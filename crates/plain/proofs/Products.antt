-- A product is a multiple of each of its factors, and each entry of a table as many times as wanted.
use Prim.Native.Nat.{ℕ, zero, suc, ◌*◌, ◌≤◌, ◌<◌, ◌∣◌}
use mathlib.Core.Path.{◌≡◌, refl}
use mathlib.Core.Bool.{Bool, true, false}
use mathlib.Core.List.{List, [], ◌∷◌}
use native.Mathlib.Nat.{dvd-mul_left, dvd-mul_right_of_dvd, one-le-mul}
use native.Mathlib.Omega.{arith}
use lib.ListN.{get_or}
use lib.Dec.{eqb}
use Rattle.lists.proofs.Tests.{Same, same, other, same?}
use Rattle.plain.specs.Unrounded.{product, each_times}

pub product-some : (n : ℕ) (f : ℕ → ℕ) → ((i : ℕ) → i < n → 1 ≤ f i) → 1 ≤ product n f
unfolding product
product-some zero f h = omega arith
product-some (suc n) f h = one-le-mul (product-some n f (λ i l. h i (omega arith))) (h n (omega arith))

pub product_each : (n : ℕ) (f : ℕ → ℕ) (i : ℕ) → i < n → f i ∣ product n f
unfolding product
product_each zero f i h = absurd (omega arith)
product_each (suc n) f i h = go (eqb i n) (same? i n) (product_each n f i)
  where
    go : (b : Bool) → Same i n b → (i < n → f i ∣ product n f) → f i ∣ product n f * f n
    go true (same e) ih = rw e (dvd-mul_left (f n) (product n f))
    go false (other d) ih = dvd-mul_right_of_dvd (f i) (ih (omega arith)) (f n)

pub get_or-times : (D : ℕ) (xs : List ℕ) (i : ℕ) → get_or (each_times D xs) i 0 ≡ get_or xs i 0 * D
unfolding each_times
get_or-times D [] i = omega arith
get_or-times D (x ∷ xs) zero = refl
get_or-times D (x ∷ xs) (suc i) = get_or-times D xs i
