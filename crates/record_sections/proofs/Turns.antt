-- The places of the fields of a row, in a loop over the rows of a table.
use Prim.Native.Nat.{ℕ, ◌+◌, ◌-◌, ◌*◌, ◌^◌, ◌≤◌, ◌<◌}
use native.Mathlib.Nat.{add-mul}
use native.Mathlib.Omega.{arith}
use mir.Val.{Fits}
use mir.Syntax.{w64}

-- a row's field of w bits at a + b
pub place-small : {p m : ℕ} → p ≤ m → m < 2 ^ 64 → p < 2 ^ 64
place-small l g = omega arith

pub more-small : (w : ℕ) {p m : ℕ} → p ≤ m → m + w < 2 ^ 64 → p + w < 2 ^ 64
more-small w l g = omega arith

module _ (a b w : ℕ) (h : a + b + w < 2 ^ 64) where
  pub offset-fits : Fits w64 b
  offset-fits = record { fits = omega arith }

  pub place-fits : Fits w64 (a + b)
  place-fits = record { fits = omega arith }

-- three rows of r bits at a time
module _ (a i r : ℕ) where
  pub three-in : {m : ℕ} → a + (i + 2) * r + r ≤ m → a + i * r + 3 * r ≤ m
  three-in l = omega (arith, add-mul i 2 r)

module _ (i : ℕ) {n : ℕ} (h : i + 2 < n) where
  pub three-within : i + 3 ≤ n
  three-within = omega arith

  pub three-less : n - (i + 3) < n - i
  three-less = omega arith
