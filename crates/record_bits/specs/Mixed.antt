-- Cited by the contract of the inner function `mix` only: no promise of the crate rests on it.
use Rattle.std.specs.Prelude.{ℕ, ◌+◌, ◌*◌, ◌/◌, ◌%◌, ◌^◌}

-- the byte x with v in the k bits above its lowest e
unfoldable pub mixed : ℕ → ℕ → ℕ → ℕ → ℕ
mixed x e k v = x / 2 ^ (k + e) * 2 ^ (k + e) + (v * 2 ^ e + x % 2 ^ e)
