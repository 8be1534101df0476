-- Bounds within which the grid's sums and products stay, so that none wraps. They say nothing of the engine.
use Rattle.std.specs.Prelude.{ℕ}

-- a factor of a product, and the product
abbrev pub max_factor : ℕ
max_factor = 1000000

abbrev pub max_product : ℕ
max_product = 1000000000000

-- the stream function
abbrev pub max_stream : ℕ
max_stream = 10000000000000

-- a value of the large lagoon
abbrev pub max_scaled : ℕ
max_scaled = 4360000000000000

-- a season, which outside values follow
abbrev pub max_season : ℕ
max_season = 1000000007
