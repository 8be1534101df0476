-- Bounds within which the program's own sums and products stay, so that none wraps. They say nothing of the engine.
use Rattle.std.specs.Prelude.{ℕ}

-- an argument
abbrev pub max_argument : ℕ
max_argument = 999999999999

-- a digest is below this prime
abbrev pub prime : ℕ
prime = 1000000007
