-- Cited by the contracts of inner functions only: no promise of the crate rests on it.
use Rattle.std.specs.Prelude.{ℕ, ◌%◌, ◌^◌, leb, ℤ}
use Rattle.signed.specs.Sign.{with_sign}

-- a sign bit and w bits of size after it, as one number x
unfoldable pub coded : ℕ → ℕ → ℤ
coded w x = with_sign (leb (2 ^ w) x) (x % 2 ^ w)
