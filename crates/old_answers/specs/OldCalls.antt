-- Document 02, S-10, its last sentence, of records: each call as made, by its contract, answers and leaves what Before.antt says. Of the bytes,
-- the fields and the steps nothing is asked; of a mesh record, that its kind is not 5, which S-10 takes besides 1; of tables lent beside a
-- record, that they are within the old ceilings.
use Rattle.std.specs.Prelude.{ℕ, ◌≤◌, ◌<◌, ◌≡◌, ◌≢◌, List, length, get_or, ℤ, Result}
use Rattle.lists.specs.Table.{over}
use Rattle.model.specs.Mesh.{Mesh, total, old_ceiling}
use Rattle.model.specs.Causes.{accepted, Verdict, ◌and_then◌, granted, cells_only}
use Rattle.model.specs.Calls.{mass_in}
use Rattle.model.specs.Answers.{said}
use Rattle.model.specs.Ceilings.{MeshSmall}
use Rattle.checks.specs.Total.{total_said}
use Rattle.record_sections.specs.Sections.{length_of, column_in}
use Rattle.record_layouts.specs.Layouts.{kind_number}
use Rattle.record_heads.specs.Heads.{kind_in, mesh_measured, field_needs, step_needs}
use Rattle.record_layouts.specs.declared.Width.TheVariants.{Narrow}
use Rattle.record_layouts.specs.declared.StepKind.{StepKind}
use Rattle.record_reading.specs.Reading.{field_read, step_read}
use Rattle.record_reading.specs.Answers.{step_read_said, MeshReads, FieldReading, StepReading}
use Rattle.record_writing.specs.Writing.{MeshWriting, FieldWriting, StepWriting}
use Rattle.taking_mesh.specs.MeshTaking.{MeshKept, MeshTaking}
use Rattle.taking.specs.Taking.{FieldTaking, Stepping, StepTaking}
use Rattle.lagoon.specs.Host.{HostPromise}
use Rattle.host_answer.specs.Number.{number_of}
use Rattle.run_printed.specs.Program.{Prints}
use Rattle.old_answers.specs.Before.{fluxes_by, old_shape_in, old_mesh_in, old_masses_in, old_step_shape_in, old_step_in, old_mesh_head, old_mesh_read, old_field_read, old_step_read, old_field_needs, old_step_needs}
use Rattle.old_answers.specs.Before.{old_mesh_writing, old_field_writing, old_step_writing, old_mesh_judged, old_field_judged, old_step_judged, old_host_verdict, old_host_bytes}
use Rattle.old_answers.specs.BeforeRun.{old_printed}
use Rattle.model.specs.declared.Refusal.{Refusal}
use Rattle.record_reading.specs.declared.MeshCounts.{MeshCounts}
use Rattle.model.specs.declared.Printed.{Printed}

-- a table of which the counted part is written after v, as a reading and a taking leave theirs
abbrev pub Filled : {B : Type 0} → Verdict → List B → List B → List B → Type 0
Filled v new t t' = t' ≡ granted v (over new t) t

pub record OldReading : Type 0 where
  -- mesh_length, field_length and step_length
  pub mesh-length : (most_cells most_faces : ℕ) (bs : List ℕ) → kind_in bs ≢ 5
      → mesh_measured most_cells most_faces bs ≡ (old_mesh_head most_cells most_faces bs
      and_then accepted (record { bytes = length_of (old_shape_in bs); width = Narrow }))
  pub field-length : (cells : ℕ) (bs : List ℕ) → field_needs Narrow cells bs ≡ old_field_needs cells bs
  pub step-length : (cells faces : ℕ) (seconds bs : List ℕ) → step_needs Narrow cells faces seconds bs ≡ old_step_needs cells faces seconds bs
  -- read_mesh, read_field and read_step
  pub mesh-read : {bs : List ℕ} {lent left : Mesh} {r : Result MeshCounts Refusal} → kind_in bs ≢ 5 → MeshReads bs lent r left
      → MeshKept (old_mesh_read lent.cells lent.faces bs (length lent.volumes) (length lent.firsts) (length lent.seconds) (length lent.shares)
      (length lent.reaches)) Narrow (old_mesh_in bs) lent r left
  pub field-read : (cells : ℕ) {bs masses : List ℕ} {r : Result (Unit {0}) Refusal} {masses' : List ℕ}
      → FieldReading (field_read Narrow cells bs (length masses)) cells bs masses r masses'
      → (said r ≡ old_field_read cells bs (length masses)) × Filled (old_field_read cells bs (length masses)) (old_masses_in bs cells) masses masses'
  pub step-read : (cells faces : ℕ) (seconds : List ℕ) {bs : List ℕ} {fluxes : List ℤ} {outsides releases : List ℕ} {r : Result StepKind Refusal} {fluxes' : List ℤ}
      {outsides' releases' : List ℕ}
      → StepReading Narrow (step_read Narrow cells faces seconds bs (length fluxes) (length outsides) (length releases)) cells faces seconds bs fluxes outsides
      releases
      r fluxes' outsides' releases'
      → let v = old_step_read cells faces seconds bs (length fluxes) (length outsides) (length releases) in
      let S = old_step_shape_in bs cells faces seconds in
      (step_read_said Narrow r ≡ (v and_then accepted (kind_in bs))) × Filled v (fluxes_by S bs faces) fluxes fluxes'
      × Filled v (column_in bs S 2 0) outsides outsides'
      × Filled v (column_in bs S 3 0) releases releases'

-- write_mesh, write_field and write_step, told the narrow width
pub record OldWriting : Type 0 where
  pub mesh_written : (M : Mesh) (bytes : List ℕ) (r : Result ℕ Refusal) (bytes' : List ℕ) → MeshWriting Narrow M bytes r bytes' → old_mesh_writing M bytes r bytes'
  pub field_written : (M : Mesh) (masses bytes : List ℕ) (r : Result ℕ Refusal) (bytes' : List ℕ) → FieldWriting Narrow M masses bytes r bytes'
      → old_field_writing M masses bytes r bytes'
  pub step_written : (M : Mesh) (k : StepKind) (fluxes : List ℤ) (outsides releases bytes : List ℕ) (r : Result ℕ Refusal) (bytes' : List ℕ)
      → StepWriting Narrow M (kind_number Narrow k) fluxes outsides releases bytes r bytes'
      → old_step_writing M (kind_number Narrow k) fluxes outsides releases bytes r bytes'

-- take_mesh, take_field and take_step; lagoon_step; and the run, as far as its program is rendered
pub record OldTaking : Type 0 where
  pub mesh_taken : (bs : List ℕ) {lent left : Mesh} {r : Result MeshCounts Refusal} → kind_in bs ≢ 5 → MeshTaking bs lent r left
      → MeshKept (old_mesh_judged bs (length lent.volumes) (length lent.firsts) (length lent.seconds) (length lent.shares) (length lent.reaches))
      Narrow (old_mesh_in bs) lent r left
  pub field_taken : (cells : ℕ) (volumes : List ℕ) {bs masses : List ℕ} {r : Result ℕ Refusal} {masses' : List ℕ}
      → ((c : ℕ) → c < cells → get_or volumes c 0 ≤ old_ceiling)
      → FieldTaking Narrow cells volumes bs masses r masses'
      → (total_said r ≡ (old_field_judged cells volumes bs (length masses) and_then accepted (total (cells_only cells volumes) (mass_in (old_masses_in bs cells)))))
      × Filled (old_field_judged cells volumes bs (length masses)) (old_masses_in bs cells) masses masses'
  pub step_taken : (M : Mesh) (masses bs : List ℕ) {r : Result Printed Refusal} {masses' : List ℕ} → MeshSmall M → StepTaking Narrow M masses bs r masses'
      → Stepping M masses (old_step_judged M masses bs) (old_step_in M bs) r masses'
  pub host : (mesh field step : List ℕ) {bytes : List ℕ} {r : ℕ} {bytes' : List ℕ} → kind_in mesh ≢ 5 → HostPromise mesh field step bytes r bytes'
      → (r ≡ number_of (old_host_verdict mesh field step (length bytes))) × (bytes' ≡ old_host_bytes mesh field step bytes)
  pub run : {input out : List ℕ} → kind_in input ≢ 5 → Prints input out → out ≡ old_printed input
