-- Two numbers in one entry: the lower is below `over_q`, the upper a multiple of it.
use Prim.Native.Nat.{ℕ, ◌+◌, ◌*◌, ◌/◌, ◌%◌, ◌<◌}
use mathlib.Core.Path.{◌≡◌}
use native.Mathlib.Omega.{arith}
use Rattle.step_cell.specs.Work.{over_q}

module _ (q p e : ℕ) (small : q < over_q) (e-is : e ≡ q + over_q * p) where
  pub lower : e % over_q ≡ q
  lower = omega arith

  pub upper : e / over_q ≡ p
  upper = omega arith
