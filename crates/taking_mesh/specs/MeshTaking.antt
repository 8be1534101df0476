-- Document 01, "The board and the run": what a mesh record comes to. It is read, then judged by the causes of its values. A refusal
-- leaves every lent table as it was. Document 02, S-10: the answer says the width, which is that of the records after it.
use Rattle.std.specs.Prelude.{ℕ, ◌≡◌, List, [], ◌∷◌, length, Result}
use Rattle.model.specs.Mesh.{Mesh, run_cells, run_faces, ceiling}
use Rattle.model.specs.Causes.{accepted, Verdict, ◌and_then◌, in_turn, granted, mesh_long, mesh_values}
use Rattle.record_heads.specs.Heads.{width_in, cells_in, faces_in, mesh_head_verdict}
use Rattle.record_layouts.specs.declared.Width.{Width}
use Rattle.record_reading.specs.Reading.{mesh_in, mesh_body_verdict}
use Rattle.model.specs.Meshes.{over_mesh}
use Rattle.record_reading.specs.Answers.{mesh_said}
use Rattle.model.specs.declared.Refusal.{Refusal}
use Rattle.record_reading.specs.declared.MeshCounts.{MeshCounts}

-- "The board and the run", limits: 1,023 cells and 2,046 faces; of a larger mesh cause 1 is found. It is read into tables of the
-- call's own, as long as these limits.
unfoldable pub mesh_record_found : List ℕ → Verdict
mesh_record_found bs = mesh_head_verdict run_cells run_faces bs and_then mesh_body_verdict bs run_cells run_faces run_faces run_faces run_faces

-- "Causes", 2: the lent tables, of so many entries, have to hold it. Then 3 to 5.
module _ (bs : List ℕ) (volumes firsts seconds shares reaches : ℕ) where
  abbrev pub mesh_room_causes : List Verdict
  mesh_room_causes = mesh_long (cells_in bs) (faces_in bs) volumes firsts seconds shares reaches

  abbrev pub mesh_judged_causes : List Verdict
  mesh_judged_causes = mesh_record_found bs ∷ in_turn mesh_room_causes ∷ mesh_values ceiling (mesh_in bs) ∷ []

  unfoldable pub mesh_judged : Verdict
  mesh_judged = in_turn mesh_judged_causes

-- The run and the host lend tables as long as the limits.
abbrev pub mesh_judged_in_run : List ℕ → Verdict
mesh_judged_in_run bs = mesh_judged bs run_cells run_faces run_faces run_faces run_faces

-- A mesh of which v is found, in a record of this width: the answer, and the lent tables as one value. The counted entries are filled where it
-- is accepted; no other entry is, and after a refusal none.
pub record MeshKept (v : Verdict) (w : Width) (M lent : Mesh) (r : Result MeshCounts Refusal) (left : Mesh) : Type 0 where
  pub answer : mesh_said r ≡ (v and_then accepted (record { cells = M.cells; faces = M.faces; width = w }))
  pub mesh_after : left ≡ granted v (over_mesh M lent) lent

abbrev pub MeshTaking : List ℕ → Mesh → (Result MeshCounts Refusal) → Mesh → Type 0
MeshTaking bs lent =
    MeshKept (mesh_judged bs (length lent.volumes) (length lent.firsts) (length lent.seconds) (length lent.shares) (length lent.reaches))
    (width_in bs) (mesh_in bs) lent
