-- What taking a mesh and a field comes to, from what the calls that `take_field` makes promise.
use Prim.Native.Nat.{ℕ, ◌≤◌}
use mathlib.Core.Path.{◌≡◌, sym, ap, ◌∙◌}
use mathlib.Core.List.{List}
use native.Mathlib.Omega.{arith}
use lib.ListN.{length, take}
use Rattle.model.specs.Mesh.{Mesh, run_cells, run_faces}
use Rattle.model.specs.Causes.{accepted, refused, Verdict, fine, ◌and_then◌}
use Rattle.model.specs.Answers.{number}
use Rattle.model.specs.declared.Refusal.{Refusal}
use Rattle.model.proofs.Verdicts.{past, out, refused-of, accepted-of}
use Rattle.checks.specs.Total.{total_said}
use Rattle.record_heads.specs.Heads.{width_in, cells_in}
use Rattle.record_reading.specs.Reading.{volumes_in, counts_in, masses_in}
use Rattle.record_reading.specs.Answers.{mesh_said}
use Rattle.record_reading.specs.declared.MeshCounts.{MeshCounts}
use Rattle.model.proofs.Parts.{PartRead, read-part}
use Rattle.taking_mesh.specs.MeshTaking.{mesh_judged_in_run, MeshTaking}
use Rattle.taking_mesh.proofs.MeshLaws.{MeshIsRead, parts_cut, taken-said, taken_fine, taken-read}
use Rattle.taking.specs.Taking.{field_judged, FieldTaking as FieldKept}
use Rattle.taking.proofs.FieldLaws.{field-says}
use Rattle.host_tested.specs.Tested.{field_tested, field_in, total_held}
use Rattle.host_taking.specs.Taken.{taken_in, RecordsTaking}
use Rattle.host_taking.specs.declared.FieldCounts.{FieldCounts}
use Rattle.std.specs.Prelude.{Result, Ok, Err}

-- what is refused is not fine
pub unfine : {A : Type 0} {v : Verdict} {k i : ℕ} → v ≡ refused k i → v ≡ fine → A
unfine e q = let z : ◌≡◌ {A = ℕ} 0 1 = cc in absurd (omega arith)

-- the mesh record, taken into tables as long as the run's limits
module _ (mesh field : List ℕ) {lent left : Mesh} {a : Result MeshCounts Refusal} (t : MeshTaking mesh lent a left)
    (lv : length lent.volumes ≡ run_cells) (lf : length lent.firsts ≡ run_faces) (ls : length lent.seconds ≡ run_faces)
    (lw : length lent.shares ≡ run_faces) (lk : length lent.reaches ≡ run_faces) where
  abbrev judged : Verdict
  judged = field_judged (width_in mesh) (cells_in mesh) (volumes_in mesh) field run_cells

  pub mesh_refused : {r : Refusal} → a ≡ Err r → (masses : List ℕ) → RecordsTaking mesh field (Err r) left masses
  mesh_refused {r = r} d masses =
      let v : field_tested mesh field ≡ refused (number r.cause) r.place =
      out judged (refused-of (mesh_judged_in_run mesh) (counts_in mesh) (number r.cause) r.place (sym (ap mesh_said d) ∙ taken-said mesh t lv lf ls lw lk)) in
      record { answer = sym (out _ v); tables = λ e. unfine v e }

  module _ {n : MeshCounts} (d : a ≡ Ok n) where
    mesh_fine : (mesh_judged_in_run mesh ≡ fine) × (n ≡ counts_in mesh)
    mesh_fine = taken_fine mesh t lv lf ls lw lk d

    mesh-read : MeshIsRead mesh n left
    mesh-read = taken-read mesh t lv lf ls lw lk d

    -- the part of the volumes that the field is taken on
    pub volumes-fit : n.cells ≤ length left.volumes
    volumes-fit = mesh-read.held.volumes_long

    pub volumes_long : n.cells ≡ length (take n.cells left.volumes)
    volumes_long = (parts_cut mesh-read).volumes_cut

    module _ {masses masses' : List ℕ} {b : Result ℕ Refusal} (u : FieldKept n.width n.cells (take n.cells left.volumes) field masses b masses')
        (lm : length masses ≡ run_cells) where
      kept : FieldKept (width_in mesh) (cells_in mesh) (volumes_in mesh) field masses b masses'
      kept =
          let x : FieldKept n.width n.cells (volumes_in mesh) field masses b masses' = rw (ap (λ (M : Mesh). M.volumes) mesh-read.same) at u in
          rw mesh_fine.1 at x

      field-said : total_said b ≡ (judged and_then accepted (total_held mesh field))
      field-said = let q = kept.answer in rw lm at q

      pub field_refused : {r : Refusal} → b ≡ Err r → RecordsTaking mesh field (Err r) left masses'
      field_refused {r = r} f =
          let v : field_tested mesh field ≡ refused (number r.cause) r.place =
          past judged mesh_fine.0 ∙ refused-of judged (total_held mesh field) (number r.cause) r.place (sym (ap total_said f) ∙ field-said) in
          record { answer = sym (out _ v); tables = λ e. unfine v e }

      module _ {total : ℕ} (f : b ≡ Ok total) where
        field_fine : (judged ≡ fine) × (total ≡ total_held mesh field)
        field_fine = accepted-of judged (total_held mesh field) total (sym (ap total_said f) ∙ field-said)

        room : cells_in mesh ≤ run_cells
        room = (field-says (width_in mesh) (cells_in mesh) (volumes_in mesh) field run_cells field_fine.0).room

        masses-part : PartRead (cells_in mesh) (field_in mesh field) masses'
        unfolding masses_in
        masses-part =
            let v : field_judged (width_in mesh) (cells_in mesh) (volumes_in mesh) field (length masses) ≡ fine = rw lm field_fine.0 in
            read-part (cells_in mesh) _ masses masses' v (omega (arith, lm, room)) kept.masses-after

        counts_are : ◌≡◌ {A = FieldCounts} (record { cells = n.cells; faces = n.faces; width = n.width; total = total }) (taken_in mesh field)
        counts_are = rw (mesh_fine.1, field_fine.1)

        pub field_taken : RecordsTaking mesh field (Ok (record { cells = n.cells; faces = n.faces; width = n.width; total = total })) left masses'
        field_taken =
            let v : field_tested mesh field ≡ fine = past judged mesh_fine.0 ∙ field_fine.0 in
            record {
              answer = ap accepted counts_are ∙ sym (past _ v);
              tables = λ e. record {
                mesh-long = rw mesh_fine.1 at mesh-read.held;
                mesh_held = rw mesh_fine.1 at mesh-read.same;
                masses_held = record { fits = masses-part.fits; part = masses-part.part };
              };
            }
