-- Document 02, S-9, on records: the mesh, field and step records of the second office. Only records that read have a renumbering.
use Rattle.std.specs.Prelude.{ℕ, ◌≡◌, Bool, List}
use Rattle.lists.specs.Renumbering.{Renumbering}
use Rattle.model.specs.Mesh.{Mesh, run_cells}
use Rattle.model.specs.Causes.{fine, Call}
use Rattle.record_layouts.specs.Layouts.{mesh_kind, field_kind, mesh_record, field_record, step_record}
use Rattle.record_heads.specs.Heads.{kind_in, width_in, cells_in, faces_in}
use Rattle.record_reading.specs.Reading.{mesh_in, masses_in, field_read}
use Rattle.taking_mesh.specs.MeshTaking.{mesh_judged_in_run}
use Rattle.taking.specs.Taking.{step_in, step_record_found}
use Rattle.renumbered.specs.Renumbered.{renumbered_mesh, renumbered_field, renumbered_call}

-- The first office's records: the mesh is accepted, and field and step read; their values may be refused.
pub record Reads (mesh field step : List ℕ) : Type 0 where
  pub mesh_accepted : mesh_judged_in_run mesh ≡ fine
  pub field_reads : field_read (width_in mesh) (cells_in mesh) field run_cells ≡ fine
  pub step_reads : step_record_found (width_in mesh) (mesh_in mesh) step ≡ fine

module _ (mesh : List ℕ) (cell : Renumbering (cells_in mesh)) (face : Renumbering (faces_in mesh)) (turns : ℕ → Bool) where
  -- the mesh that a record holds, numbered anew, and its record, of the same width (S-10)
  abbrev pub new_mesh : Mesh
  new_mesh = renumbered_mesh (mesh_in mesh) cell face turns

  abbrev pub mesh_anew : List ℕ
  mesh_anew = mesh_record (mesh_kind (width_in mesh)) new_mesh

  -- a field on it
  abbrev pub new_field : List ℕ → List ℕ
  new_field field = renumbered_field (mesh_in mesh) cell face turns (masses_in field (cells_in mesh))

  abbrev pub field_anew : List ℕ → List ℕ
  field_anew field = field_record (field_kind (width_in mesh)) (cells_in mesh) (new_field field)

  -- A step, its record of the same kind. A flux of 0 stays without a sign; outside values follow the new order of the faces.
  abbrev pub new_call : List ℕ → Call
  new_call step = let k = step_in (mesh_in mesh) step in renumbered_call (mesh_in mesh) cell face turns k k.nexts k.moveds k.work

  abbrev pub step_anew : List ℕ → List ℕ
  step_anew step = let k = new_call step in
      step_record (kind_in step) (cells_in mesh) (faces_in mesh) new_mesh.seconds k.fluxes k.outsides k.releases

-- The second office's records read too, have the kinds of the first's, and hold the same lagoon, numbered anew.
pub record HeldAnew (mesh : List ℕ) (cell : Renumbering (cells_in mesh)) (face : Renumbering (faces_in mesh)) (turns : ℕ → Bool)
    (field step : List ℕ) : Type 0 where
  pub reads_anew : Reads (mesh_anew mesh cell face turns) (field_anew mesh cell face turns field) (step_anew mesh cell face turns step)
  pub mesh-kind : kind_in (mesh_anew mesh cell face turns) ≡ kind_in mesh
  pub field-kind : kind_in (field_anew mesh cell face turns field) ≡ kind_in field
  pub step_kind : kind_in (step_anew mesh cell face turns step) ≡ kind_in step
  pub mesh_held : mesh_in (mesh_anew mesh cell face turns) ≡ new_mesh mesh cell face turns
  pub field_held : masses_in (field_anew mesh cell face turns field) (cells_in mesh) ≡ new_field mesh cell face turns field
  pub step_held : step_in (new_mesh mesh cell face turns) (step_anew mesh cell face turns step) ≡ new_call mesh cell face turns step
