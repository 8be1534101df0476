-- A turn of a loop over the first n rows of tables: its index, the next one, and what is left to do.
use Prim.Native.Nat.{ℕ, ◌+◌, ◌-◌, ◌*◌, ◌^◌, ◌≤◌, ◌<◌}
use mathlib.Core.Path.{◌≡◌}
use native.Mathlib.Omega.{arith}
use mir.Val.{Fits}
use mir.Syntax.{w64}

module _ {i n : ℕ} (h : i < n) where
  pub turn-within : i + 1 ≤ n
  turn-within = omega arith

  pub turn-less : n - (i + 1) < n - i
  turn-less = omega arith

  -- a table has n entries or more, and is as long as at first
  module _ {m : ℕ} (l : n ≤ m) where
    pub turn_in : i < m
    turn_in = omega arith

    pub turn-in-same : {k : ℕ} → k ≡ m → i < k
    turn-in-same e = omega arith

    pub turn-next : m < 2 ^ 64 → Fits w64 (i + 1)
    turn-next g = record { fits = omega arith }

    pub turn-bytes : m * 8 < 2 ^ 63 → Fits w64 (i * 8)
    turn-bytes g = record { fits = omega arith }
