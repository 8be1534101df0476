-- One more digit, decided by the size that the number then has.
use Prim.Native.Nat.{ℕ, ◌+◌, ◌*◌, ◌^◌, ◌≤◌, ◌<◌}
use mathlib.Core.Path.{◌≡◌}
use mathlib.Core.Bool.{Bool}
use lib.Dec.{ltb}
use borrow.Author.Tests.{lt-ltb, le-ltb}
use Rattle.calls_numerals.specs.Numerals.{sized}
use Rattle.calls_numerals.specs.declared.Token.TheVariants.{Digits, TooLarge}

module _ (minus : Bool) (size digit : ℕ) where
  pub larger : 2 ^ 64 ≤ size * 10 + digit → TooLarge ≡ sized (ltb (size * 10 + digit) (2 ^ 64)) minus (size * 10 + digit)
  larger h = rw (le-ltb _ _ h)

  pub fitting : size * 10 + digit < 2 ^ 64 → Digits (record { minus = minus; size = size * 10 + digit })
      ≡ sized (ltb (size * 10 + digit) (2 ^ 64)) minus (size * 10 + digit)
  fitting h = rw (lt-ltb _ _ h)
