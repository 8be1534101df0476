-- What a writing that is accepted has passed, that its record fits its bytes, and what the writer answers.
use Prim.Native.Nat.{ℕ}
use mathlib.Core.Path.{◌≡◌}
use mathlib.Core.List.{List}
use lib.ListN.{length}
use lib.IntN.{ℤ}
use Rattle.model.specs.Mesh.{Mesh}
use Rattle.model.specs.Causes.{Verdict, fine, ◌and_then◌, water_of}
use Rattle.model.specs.Answers.{told}
use Rattle.model.specs.declared.Refusal.{Refusal}
use Rattle.model.proofs.Accepted.{counted, mesh_lent, field-lent}
use Rattle.record_layouts.specs.Layouts.{mesh_kind, field_kind, kind_number}
use Rattle.record_layouts.specs.declared.Width.{Width}
use Rattle.record_layouts.specs.declared.StepKind.{StepKind}
use Rattle.record_writing.specs.Writing.{mesh_write_verdict, field_write_verdict, step_write_verdict, Writing}
use Rattle.record_causes.specs.Verdicts.{no_field}
use Rattle.record_causes.proofs.Passed.{mesh-write-says, field-write-says, step-write-says}
use Rattle.record_putting.specs.Putting.{MeshWhole, FieldWhole, StepWhole, Wrote}
use Rattle.record_writing.proofs.WidthLaws.{mesh_fits, masses_fit, field_fits, outsides_fit, step_fits}
use Rattle.std.specs.Prelude.{Ok, Err}

-- the answer, and the bytes

module _ {v : Verdict} {n : ℕ} {written bytes : List ℕ} where
  pub writing-refused : {r : Refusal} → v ≡ told r → Writing v n written bytes (Err r) bytes
  unfolding ◌and_then◌
  writing-refused e = record { answer = rw e; bytes_written = rw e }

  pub writing-accepted : {k : ℕ} {bytes' : List ℕ} → v ≡ fine → Wrote bytes written n bytes' k → Writing v n written bytes (Ok k) bytes'
  unfolding ◌and_then◌
  writing-accepted e q = record { answer = rw (e, q.takes); bytes_written = rw e q.written }

-- what a record that is put has passed
pub mesh-whole : (w : Width) (M : Mesh) {bs : List ℕ} → mesh_write_verdict w M (length bs) ≡ fine → MeshWhole (mesh_kind w) M bs
mesh-whole w M {bs} e =
    let p = mesh-write-says w M (length bs) e in
    let n = counted M p.counts_fine in
    record {
      few_cells = n.few_cells;
      few_faces = n.few_faces;
      lent = mesh_lent M p.tables_fine;
      fits = mesh_fits w M p.counts_fine p.values_fine;
      enough = p.enough;
    }

pub field-whole : (w : Width) (M : Mesh) (masses : List ℕ) {bs : List ℕ} → field_write_verdict w M masses (length bs) ≡ fine
    → FieldWhole (field_kind w) M.cells masses bs
field-whole w M masses {bs} e =
    let p = field-write-says w M masses (length bs) e in
    let n = counted M p.counts_fine in
    record {
      few_cells = n.few_cells;
      masses_long = field-lent M masses p.field_table_fine;
      fits = field_fits w M.cells masses n.few_cells (masses_fit w M p.values_fine masses p.salt-fine);
      enough = p.enough;
    }

module _ (w : Width) (M : Mesh) (kind : StepKind) (fluxes : List ℤ) (outsides releases : List ℕ) where
  pub step-whole : {bs : List ℕ} → step_write_verdict w M (kind_number w kind) fluxes outsides releases (length bs) ≡ fine
      → StepWhole (kind_number w kind) M.cells M.faces M.seconds fluxes outsides releases bs
  step-whole {bs} e =
      let p = step-write-says w M (kind_number w kind) fluxes outsides releases (length bs) e in
      let n = counted M p.counts_fine in
      let k = water_of fluxes outsides releases in
      record {
        few_cells = n.few_cells;
        few_faces = n.few_faces;
        seconds_long = (mesh_lent M p.tables_fine).seconds_long;
        fluxes_long = p.fluxes_long;
        outsides_long = p.outsides_long;
        releases_long = p.releases_long;
        fits = step_fits w M p.values_fine no_field k p.outsides-fine p.fluxes-fine kind p.releases-fine n.few_faces;
        outsides_fit = outsides_fit w M p.values_fine no_field k p.outsides-fine p.fluxes-fine;
        enough = p.enough;
      }
