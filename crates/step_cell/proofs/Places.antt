-- The places of a cell's four entries and of a face's entry in work: small, and in the table. Entries are told by their number j.
use Prim.Native.Nat.{ℕ, ◌+◌, ◌*◌, ◌≤◌, ◌<◌}
use mathlib.Core.Path.{◌≡◌}
use mathlib.Core.Bool.{true}
use native.Mathlib.Omega.{arith}
use borrow.Author.Tests.{leb-true}
use lib.Dec.{leb}
use mir.Val.{Fits}
use mir.Syntax.{w64}
use Rattle.model.specs.Mesh.{max_cells, max_faces}

pub base-fits : {c : ℕ} → c < max_cells → Fits w64 (4 * c)
base-fits h = record { fits = omega arith }

pub slot-fits : {c : ℕ} (j : ℕ) → leb j 3 ≡ true → c < max_cells → Fits w64 (4 * c + j)
slot-fits j t h = record { fits = omega (arith, leb-true j 3 t) }

pub slot-bytes : {c : ℕ} (j : ℕ) → leb j 3 ≡ true → c < max_cells → Fits w64 ((4 * c + j) * 8)
slot-bytes j t h = record { fits = omega (arith, leb-true j 3 t) }

pub slot-in : (c j n : ℕ) → leb j 3 ≡ true → 4 * c + 3 < n → 4 * c + j < n
slot-in c j n t h = omega (arith, leb-true j 3 t)

-- a cell below the count has its entries in a table for all cells and faces
pub cell_in : (c cells faces n : ℕ) → c < cells → n ≡ 4 * cells + faces → 4 * c + 3 < n
cell_in c cells faces n h e = omega arith

pub cells_fit : {n : ℕ} → n ≤ max_cells → Fits w64 (4 * n)
cells_fit h = record { fits = omega arith }

module _ {f cells faces : ℕ} (h : f < faces) (few_cells : cells ≤ max_cells) (few_faces : faces ≤ max_faces) where
  pub face-fits : Fits w64 (4 * cells + f)
  face-fits = record { fits = omega arith }

  pub face-entry-bytes : Fits w64 ((4 * cells + f) * 8)
  face-entry-bytes = record { fits = omega arith }

pub face_in : (f cells faces n : ℕ) → f < faces → n ≡ 4 * cells + faces → 4 * cells + f < n
face_in f cells faces n h e = omega arith
