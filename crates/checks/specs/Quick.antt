-- Document 01, "Causes", 3 and 6, and document 02's 18: that none of them refuses one cell.
use Rattle.std.specs.Prelude.{ℕ, ◌≡◌, true}
use Rattle.model.specs.Mesh.{ceiling}
use Rattle.model.specs.Causes.{volume_fits, salt_fit, raised_fit}

abbrev pub CellFine : (volume mass release : ℕ) → Type 0
CellFine volume mass release = (volume_fits ceiling volume ≡ true) × (salt_fit volume mass ≡ true) × (raised_fit volume mass release ≡ true)
