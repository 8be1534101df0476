-- Where nothing is found of a step, the next masses are a field of the mesh, and a writer is left with nothing to refuse but too few bytes.
use Prim.Native.Nat.{ℕ}
use mathlib.Core.Path.{◌≡◌, refl, sym, ap, ◌∙◌}
use mathlib.Core.List.{List}
use native.Mathlib.Nat.{le_trans}
use native.Mathlib.Omega.{arith}
use Rattle.lists.specs.Table.{table}
use Rattle.lists.proofs.Tables.{length-table, get_or-table}
use Rattle.model.specs.Mesh.{Mesh, ceiling}
use Rattle.model.specs.Step.{next}
use Rattle.model.specs.Causes.{accepted, refused, Verdict, fine, ◌and_then◌, Call, input_of, mesh_values, field_table, field_values, field_verdict, verdict, bytes_long}
use Rattle.model.proofs.Verdicts.{both-fine}
use Rattle.model.proofs.Accepted.{ready, passed, field_accepted, hi-most}
use Rattle.model.proofs.Ceilings.{old-meshes}
use Rattle.model.proofs.Next.{next-concentration}
use Rattle.record_layouts.specs.Layouts.{field_kind, field_length}
use Rattle.record_heads.specs.Heads.{width_in}
use Rattle.record_layouts.specs.declared.Width.{Width}
use Rattle.record_layouts.specs.declared.Width.TheVariants.{Narrow, Wide}
use Rattle.record_reading.specs.Reading.{mesh_in}
use Rattle.record_writing.specs.Writing.{most_of, field_write_verdict}
use Rattle.taking_mesh.proofs.MeshLaws.{mesh-small}

then-fine : (v : Verdict) → (v and_then fine) ≡ v
unfolding ◌and_then◌
then-fine (accepted t) = refl
then-fine (refused k i) = refl

module _ (w : Width) (M : Mesh) (within : mesh_values (most_of w) M ≡ mesh_values ceiling M) (masses : List ℕ) (k : Call) (e : verdict M masses k ≡ fine) where
  abbrev after : List ℕ
  after = table M.cells (next (input_of M masses k))

  next-fine : field_verdict M after ≡ fine
  next-fine =
      let r = ready M masses k e in
      field_accepted M after (omega (arith, length-table M.cells (next (input_of M masses k))))
      (λ c h. rw (get_or-table M.cells (next (input_of M masses k)) 0 c h) (le_trans (next-concentration (input_of M masses k) r.sound c h).1 (hi-most
      (input_of M masses k) r c h)))

  next-parts : (field_table M after ≡ fine) × (field_values M after ≡ fine)
  unfolding field_verdict
  next-parts = both-fine _ _ next-fine

  pub write-is : (room : ℕ) → field_write_verdict w M after room ≡ bytes_long (field_length (field_kind w) M.cells) room
  unfolding field_write_verdict ◌and_then◌
  write-is room =
      let p = passed M masses k e in
      rw (p.counts_fine, p.mesh_tables_fine, next-parts.0, within, p.mesh_values_fine, next-parts.1)
      (ap (λ (v : Verdict). v and_then fine) (then-fine (bytes_long (field_length (field_kind w) M.cells) room)) ∙ then-fine (bytes_long (field_length
      (field_kind w) M.cells) room))

-- a mesh that stands in a record has no value above the ceiling of its width
pub record-within : (bs : List ℕ) → mesh_values (most_of (width_in bs)) (mesh_in bs) ≡ mesh_values ceiling (mesh_in bs)
record-within bs = go (width_in bs) refl
  where
    go : (w : Width) → width_in bs ≡ w → mesh_values (most_of w) (mesh_in bs) ≡ mesh_values ceiling (mesh_in bs)
    go Narrow e = sym (old-meshes (mesh_in bs) (mesh-small bs e))
    go Wide e = refl
