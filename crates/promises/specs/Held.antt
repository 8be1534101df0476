-- Document 01, "A list of steps": records that hold a mesh and a field.
use Rattle.std.specs.Prelude.{ℕ, ◌≡◌, List}
use Rattle.lists.specs.Table.{table}
use Rattle.model.specs.Mesh.{Mesh, max_cells, max_faces}
use Rattle.model.specs.Causes.{accepted, fine}
use Rattle.model.specs.Calls.{mass_in}
use Rattle.record_layouts.specs.declared.Width.{Width}
use Rattle.record_reading.specs.Reading.{mesh_in, masses_in, mesh_read, field_read}
pub use Rattle.model.specs.Meshes.{trimmed}

-- a field with its table trimmed to the count, as a mesh is by `trimmed`
abbrev pub trimmed_field : Mesh → List ℕ → List ℕ
trimmed_field M field = table M.cells (mass_in field)

-- A record of this width holds a mesh: reading accepts it, into tables of its counts, and what is read are the counted entries.
pub record HoldsMesh (w : Width) (M : Mesh) (bs : List ℕ) : Type 0 where
  pub mesh-read : mesh_read max_cells max_faces bs M.cells M.faces M.faces M.faces M.faces
      ≡ accepted (record { cells = M.cells; faces = M.faces; width = w })
  pub mesh_held : mesh_in bs ≡ trimmed M

-- and so a field on it
pub record HoldsField (w : Width) (M : Mesh) (field bs : List ℕ) : Type 0 where
  pub field-read : field_read w M.cells bs M.cells ≡ fine
  pub field_held : masses_in bs M.cells ≡ trimmed_field M field
