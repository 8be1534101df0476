-- Indices of cells and faces, and their bytes, are small.
use Prim.Native.Nat.{ℕ, ◌+◌, ◌*◌, ◌≤◌, ◌<◌}
use native.Mathlib.Omega.{arith}
use mir.Val.{Fits}
use mir.Syntax.{w64}
use Rattle.model.specs.Mesh.{max_cells, max_faces}

pub cell-bytes : {c n : ℕ} → c < n → n ≤ max_cells → Fits w64 (c * 8)
cell-bytes l m = record { fits = omega arith }

pub cell-next : {c n : ℕ} → c < n → n ≤ max_cells → Fits w64 (c + 1)
cell-next l m = record { fits = omega arith }

pub face-bytes : {f n : ℕ} → f < n → n ≤ max_faces → Fits w64 (f * 8)
face-bytes l m = record { fits = omega arith }

pub face-next : {f n : ℕ} → f < n → n ≤ max_faces → Fits w64 (f + 1)
face-next l m = record { fits = omega arith }
