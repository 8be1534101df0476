-- The record of an accepted mesh within the ceilings of a width holds it, and so that of an accepted field; and a mesh that a record holds is
-- within the ceilings of its width.
use Prim.Native.Nat.{ℕ}
use mathlib.Core.Path.{◌≡◌, sym, ap, ◌∙◌}
use mathlib.Core.List.{List, [], ◌∷◌}
use native.Mathlib.Omega.{arith}
use Rattle.lists.proofs.Tables.{get_or-table}
use Rattle.model.specs.Mesh.{Mesh, volume, reach, max_cells, max_faces, ceiling}
use Rattle.model.specs.Ceilings.{MeshSmall}
use Rattle.model.specs.Causes.{fine, counts, mesh_values, mesh_verdict, field_values, field_verdict}
use Rattle.model.proofs.Verdicts.{both-fine, all-fine}
use Rattle.model.proofs.Ceilings.{old-meshes}
use Rattle.record_layouts.specs.Layouts.{mesh_kind, field_kind, mesh_record, field_record}
use Rattle.record_heads.specs.Heads.{width_in}
use Rattle.record_layouts.specs.declared.Width.{Width}
use Rattle.record_layouts.specs.declared.Width.TheVariants.{Narrow, Wide}
use Rattle.record_reading.specs.declared.MeshCounts.{MeshCounts}
use Rattle.record_writing.specs.Writing.{most_of}
use Rattle.record_writing.proofs.Accepting.{mesh-passed}
use Rattle.record_writing.proofs.RoundTrip.{mesh-read-back, field-read-back, masses-read-back, mesh-is-back}
use Rattle.taking_mesh.proofs.MeshLaws.{within-long, mesh-small}
use Rattle.promises.specs.Held.{trimmed, HoldsMesh, HoldsField}

-- V and K within the old ceilings, of a mesh that a record holds
whole-small : (M : Mesh) → MeshSmall (trimmed M) → MeshSmall M
whole-small M s = record {
  small_volumes = λ c h. rw (get_or-table M.cells (volume M) 0 c h) at (s.small_volumes c h);
  small_reaches = λ f l. rw (get_or-table M.faces (reach M) 0 f l) at (s.small_reaches f l);
}

-- the width of a record that holds a mesh
pub width-held : (w : Width) (M : Mesh) (bs : List ℕ) → HoldsMesh w M bs → w ≡ width_in bs
width-held w M bs h =
    ap (λ (k : MeshCounts). k.width) (mesh-passed max_cells max_faces bs M.cells M.faces M.faces M.faces M.faces h.mesh-read).counts_are

-- what an accepted mesh and field have passed
module _ (M : Mesh) (mesh_fine : mesh_verdict M ≡ fine) where
  pub within : counts M ≡ fine
  unfolding mesh_verdict
  within = (all-fine (counts M ∷ _ ∷ _ ∷ []) mesh_fine).0

  pub passes : mesh_values ceiling M ≡ fine
  unfolding mesh_verdict
  passes = (all-fine (counts M ∷ _ ∷ _ ∷ []) mesh_fine).1.1.0

-- a mesh that a record of a width holds is within its ceilings
pub holds-within : (w : Width) (M : Mesh) → mesh_verdict M ≡ fine → (bs : List ℕ) → HoldsMesh w M bs → mesh_values (most_of w) M ≡ fine
holds-within Narrow M e bs h =
    sym (old-meshes M (whole-small M (rw h.mesh_held at (mesh-small bs (sym (width-held Narrow M bs h)))))) ∙ passes M e
holds-within Wide M e bs h = passes M e

-- a mesh within the ceilings of a width, which records of that width hold
module _ (w : Width) (M : Mesh) (mesh_fine : mesh_verdict M ≡ fine) (fits : mesh_values (most_of w) M ≡ fine) where
  abbrev inside : counts M ≡ fine
  inside = within M mesh_fine

  pub mesh-holds : HoldsMesh w M (mesh_record (mesh_kind w) M)
  unfolding counts
  mesh-holds = record {
    mesh-read = mesh-read-back w M inside fits max_cells max_faces M.cells M.faces M.faces M.faces M.faces
        inside (within-long (omega arith) (omega arith));
    mesh_held = mesh-is-back w M inside fits;
  }

  module _ (field : List ℕ) (field_fine : field_verdict M field ≡ fine) where
    pub salt : field_values M field ≡ fine
    unfolding field_verdict
    salt = (both-fine _ _ field_fine).1

    pub field-holds : HoldsField w M field (field_record (field_kind w) M.cells field)
    field-holds = record {
      field-read = field-read-back w M inside fits field salt M.cells (omega arith);
      field_held = masses-read-back w M
          inside fits field salt;
    }
