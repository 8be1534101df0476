-- A mesh that is taken stands at the front of tables that may be longer, so its values are accepted there too.
use Prim.Native.Nat.{ℕ}
use mathlib.Core.Path.{◌≡◌, sym, ap, ◌∙◌}
use mathlib.Core.List.{List}
use lib.ListN.{length}
use Rattle.model.specs.Mesh.{Mesh, ceiling}
use Rattle.model.specs.Meshes.{over_mesh}
use Rattle.model.specs.Causes.{Verdict, fine, mesh_values}
use Rattle.model.proofs.Verdicts.{accepted-of}
use Rattle.model.proofs.Agree.{mesh-values-agree}
use Rattle.model.proofs.Parts.{over-agrees}
use Rattle.record_reading.specs.Reading.{counts_in, mesh_in}
use Rattle.record_reading.specs.Answers.{mesh_said, counting}
use Rattle.record_reading.specs.declared.MeshCounts.{MeshCounts}
use Rattle.record_reading.proofs.ReadLaws.{mesh_cut}
use Rattle.taking_mesh.specs.MeshTaking.{mesh_judged, MeshTaking}
use Rattle.taking_mesh.proofs.MeshLaws.{mesh-says}
use Rattle.std.specs.Prelude.{Result, Ok}
use Rattle.model.specs.declared.Refusal.{Refusal}

module _ (bs : List ℕ) {lent left : Mesh} {r : Result MeshCounts Refusal} (t : MeshTaking bs lent r left) {n : MeshCounts} (d : r ≡ Ok n) where
  abbrev J : Verdict
  J = mesh_judged bs (length lent.volumes) (length lent.firsts) (length lent.seconds) (length lent.shares) (length lent.reaches)

  found : (J ≡ fine) × (n ≡ counts_in bs)
  found = accepted-of J (counts_in bs) n (sym (ap mesh_said d) ∙ t.answer)

  pub kept-values : mesh_values ceiling (counting n left) ≡ fine
  kept-values =
      let e : left ≡ over_mesh (mesh_in bs) lent = rw found.0 at t.mesh_after in
      rw (found.1, e) (mesh-values-agree (mesh_in bs) _ (over-agrees (mesh_in bs) lent (mesh_cut bs)) ∙ (mesh-says bs _ _ _ _ _ found.0).values)
