-- A mesh record taken for its labels: the tables are the call's own, as long as the run's limits.
use Prim.Native.Nat.{ℕ}
use mathlib.Core.Path.{◌≡◌, sym, ap, ◌∙◌}
use mathlib.Core.List.{List}
use lib.ListN.{length}
use Rattle.model.specs.Mesh.{Mesh, run_cells, run_faces}
use Rattle.model.specs.Causes.{accepted, Verdict, ◌and_then◌}
use Rattle.model.specs.Answers.{number, told}
use Rattle.model.specs.declared.Refusal.{Refusal}
use Rattle.model.proofs.Verdicts.{past, out, refused-of, accepted-of}
use Rattle.record_heads.specs.Heads.{width_in}
use Rattle.record_reading.specs.Reading.{mesh_in}
use Rattle.record_reading.specs.Answers.{mesh_said}
use Rattle.record_reading.specs.declared.MeshCounts.{MeshCounts}
use Rattle.taking_mesh.specs.MeshTaking.{mesh_judged_in_run, MeshTaking}
use Rattle.host_cut_promises.specs.Cut.{labels_find, labelled}
use Rattle.std.specs.Prelude.{Result, Ok, Err}

module _ (mesh labels : List ℕ) {lent : Mesh} {a : Result MeshCounts Refusal} {left : Mesh} (t : MeshTaking mesh lent a left)
    (lv : length lent.volumes ≡ run_cells) (lf : length lent.firsts ≡ run_faces) (ls : length lent.seconds ≡ run_faces)
    (lw : length lent.shares ≡ run_faces) (lk : length lent.reaches ≡ run_faces) where
  abbrev counts : MeshCounts
  counts = record { cells = (mesh_in mesh).cells; faces = (mesh_in mesh).faces; width = width_in mesh }

  mesh-said : mesh_said a ≡ (mesh_judged_in_run mesh and_then accepted counts)
  mesh-said = rw (lv, lf, ls, lw, lk) at t.answer

  pub labels-unread : {r : Refusal} → a ≡ Err r → told r ≡ labelled mesh labels
  labels-unread {r = r} d = sym (out _ (refused-of (mesh_judged_in_run mesh) counts (number r.cause) r.place (sym (ap mesh_said d) ∙ mesh-said)))

  pub labels-read : {n : MeshCounts} → a ≡ Ok n → {v : Verdict} → v ≡ labels_find n.cells labels → v ≡ labelled mesh labels
  labels-read {n = n} d e =
      let x = accepted-of (mesh_judged_in_run mesh) counts n (sym (ap mesh_said d) ∙ mesh-said) in
      e ∙ ap (λ (k : MeshCounts). labels_find k.cells labels) x.1 ∙ sym (past _ x.0)
