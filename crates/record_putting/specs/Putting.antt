-- Cited by the contracts of inner functions only: no promise of the crate rests on these.
use Rattle.std.specs.Prelude.{◌≡◌, List, ℕ, ◌^◌, ◌≤◌, ◌<◌, ℤ, length}
use Rattle.lists.specs.Table.{over}
use Rattle.model.specs.Mesh.{Mesh, max_cells, max_faces}
use Rattle.model.specs.Accepted.{MeshLent}
use Rattle.record_sections.specs.Sections.{Fits}
use Rattle.record_layouts.specs.Layouts.{outside_bits, outside_of, mesh_shape, mesh_value, field_shape, field_value, step_shape, step_value, mesh_length, field_length, step_length}

-- a record that its fields can hold, tables that lend it, and bytes that can hold it
pub record MeshWhole (kind : ℕ) (M : Mesh) (bs : List ℕ) : Type 0 where
  pub few_cells : M.cells ≤ max_cells
  pub few_faces : M.faces ≤ max_faces
  pub lent : MeshLent M
  pub fits : Fits (mesh_shape kind M.cells M.faces) (mesh_value kind M)
  pub enough : mesh_length kind M.cells M.faces ≤ length bs

pub record FieldWhole (kind cells : ℕ) (masses bs : List ℕ) : Type 0 where
  pub few_cells : cells ≤ max_cells
  pub masses_long : cells ≤ length masses
  pub fits : Fits (field_shape kind cells) (field_value kind cells masses)
  pub enough : field_length kind cells ≤ length bs

pub record StepWhole (kind cells faces : ℕ) (seconds : List ℕ) (fluxes : List ℤ) (outsides releases bs : List ℕ) : Type 0 where
  pub few_cells : cells ≤ max_cells
  pub few_faces : faces ≤ max_faces
  pub seconds_long : faces ≤ length seconds
  pub fluxes_long : faces ≤ length fluxes
  pub outsides_long : faces ≤ length outsides
  pub releases_long : cells ≤ length releases
  pub fits : Fits (step_shape kind cells faces seconds) (step_value kind faces fluxes outsides releases)
  pub outsides_fit : (f : ℕ) → f < faces → outside_of outsides f < 2 ^ outside_bits
  pub enough : step_length kind cells faces seconds ≤ length bs

-- the record is written into the bytes, and takes so many
pub record Wrote (bs : List ℕ) (record-bytes : List ℕ) (n : ℕ) (out : List ℕ) (r : ℕ) : Type 0 where
  pub takes : r ≡ n
  pub written : out ≡ over record-bytes bs
