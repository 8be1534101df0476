-- A pattern that, but for its sign, is not above an infinity's is no pattern of a not-a-number.
use Prim.Native.Nat.{ℕ, ◌%◌, ◌/◌, ◌≤◌}
use mathlib.Core.Path.{◌≡◌, refl}
use mathlib.Core.Bool.{Bool, true, false, not, ◌&&◌}
use native.Mathlib.Omega.{arith}
use borrow.Author.Tests.{eqb-true, eq-eqb}
use lib.Dec.{T, eqb}
use lib.Ieee.{binary64, nan_bits}
use Rattle.calls_points.proofs.float_of.Goals as goal

no_nan : (b : ℕ) → b % 9223372036854775808 ≤ 9218868437227405312 → T (not (nan_bits binary64 b))
unfolding nan_bits
no_nan b h = go (eqb (b % 9223372036854775808 / 4503599627370496) 2047) refl
  where
    go : (t : Bool) → eqb (b % 9223372036854775808 / 4503599627370496) 2047 ≡ t → T (not (t && not (eqb (b % 4503599627370496) 0)))
    go true e = rw (eq-eqb (b % 4503599627370496) 0 (omega (arith, eqb-true (b % 9223372036854775808 / 4503599627370496) 2047 e))) tt
    go false e = tt

pub float_from_bits-result : goal.float_from_bits-result
float_from_bits-result c = no_nan c.args.pattern c.if-pattern-gt-INFINITE.false
