-- Document 01, "Tables lent to a step": the host's call on three records where nothing is refused. The definitions are those by which the
-- run judges them; which cause is the lowest is not told here.
use Rattle.std.specs.Prelude.{ℕ, ◌≡◌, Bool, true, false, List, length}
use Rattle.lists.specs.Table.{table, over}
use Rattle.model.specs.Mesh.{run_cells}
use Rattle.model.specs.Step.{StepInput, next}
use Rattle.model.specs.Causes.{fine, input_of, bytes_long}
use Rattle.record_layouts.specs.Layouts.{field_kind, field_record, field_length}
use Rattle.record_heads.specs.Heads.{width_in}
use Rattle.record_layouts.specs.declared.Width.{Width}
use Rattle.record_reading.specs.Reading.{mesh_in, masses_in}
use Rattle.taking_mesh.specs.MeshTaking.{mesh_judged_in_run}
use Rattle.taking.specs.Taking.{field_judged, step_in, step_judged}

-- Where it is done, this holds and the bytes begin with the next field of S in a record of this width; where not, they are as they were.
pub record Put (Holds : Type 0) (w : Width) (S : StepInput) (bytes : List ℕ) (r : Bool) (bytes' : List ℕ) : Type 0 where
  pub done : r ≡ true → Holds × (bytes' ≡ over (field_record (field_kind w) S.mesh.cells (table S.mesh.cells (next S))) bytes)
  pub left : r ≡ false → bytes' ≡ bytes

module _ (mesh field step : List ℕ) where
  -- nothing is found of mesh, field and step, nor of the room for the next field
  pub record Unrefused (room : ℕ) : Type 0 where
    pub mesh_fine : mesh_judged_in_run mesh ≡ fine
    pub field_fine : field_judged (width_in mesh) (mesh_in mesh).cells (mesh_in mesh).volumes field run_cells ≡ fine
    pub step_fine : step_judged (width_in mesh) (mesh_in mesh) (masses_in field (mesh_in mesh).cells) step ≡ fine
    pub room_fine : bytes_long (field_length (field_kind (width_in mesh)) (mesh_in mesh).cells) room ≡ fine

  abbrev pub RecordsPut : List ℕ → Bool → List ℕ → Type 0
  RecordsPut bytes = Put (Unrefused (length bytes)) (width_in mesh)
      (input_of (mesh_in mesh) (masses_in field (mesh_in mesh).cells) (step_in (mesh_in mesh) step)) bytes
