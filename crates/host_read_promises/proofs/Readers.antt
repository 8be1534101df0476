-- What a reader answers in C, from what the reader promises: the tables are those, and its answer is a number; a field and a step are of the width that the
-- host names.
use Prim.Native.Nat.{ℕ}
use mathlib.Core.Path.{◌≡◌, ap, ◌∙◌}
use mathlib.Core.List.{List}
use lib.IntN.{ℤ}
use lib.ListN.{length}
use Rattle.model.specs.Mesh.{Mesh}
use Rattle.model.specs.Answers.{said}
use Rattle.record_layouts.specs.declared.Width.{Width}
use Rattle.record_reading.specs.Reading.{field_read}
use Rattle.record_reading.specs.Answers.{mesh_said, step_read_said, MeshReads, FieldReading, StepReading}
use Rattle.host_answer.specs.Number.{number_of}
use Rattle.host_answer.specs.Found.{alone, Answered}
use Rattle.host_answer.proofs.Answers.{answered-as}
use Rattle.host_read_promises.specs.Read.{counts_found, MeshReadFromC, FieldReadFromC, step_finds, StepReadFromC}
use Rattle.std.specs.Prelude.{Result}
use Rattle.model.specs.declared.Refusal.{Refusal}
use Rattle.record_reading.specs.declared.MeshCounts.{MeshCounts}
use Rattle.record_layouts.specs.declared.StepKind.{StepKind}

pub mesh-from-c : {bs : List ℕ} {lent left : Mesh} {a : Result MeshCounts Refusal} {found : List ℕ} {r : ℕ} {found' : List ℕ} → MeshReads bs lent a left
    → Answered counts_found (mesh_said a) found r found' → MeshReadFromC bs lent found r left found'
mesh-from-c {found = found} h a = record { answer = answered-as counts_found found h.answer a; mesh-read = h.mesh-read }

pub field-named : {w v : Width} → w ≡ v → {cells : ℕ} {bs masses : List ℕ} {a : Result (Unit {0}) Refusal} {masses' : List ℕ} {r : ℕ}
    → FieldReading (field_read w cells bs (length masses)) cells bs masses a masses' → r ≡ number_of (said a) → FieldReadFromC v cells bs masses r masses'
field-named e h n = rw (← e) (record { number = n ∙ ap number_of h.answer; masses_read = h.masses_read })

pub step-named : {w v : Width} → w ≡ v → {cells faces : ℕ} {seconds bs : List ℕ} {fluxes : List ℤ} {outsides releases : List ℕ} {a : Result StepKind Refusal}
    {fluxes' : List ℤ} {outsides' releases' found : List ℕ} {r : ℕ} {found' : List ℕ}
    → StepReading w (step_finds w cells faces seconds bs fluxes outsides releases) cells faces seconds bs fluxes outsides releases a fluxes' outsides' releases'
    → Answered alone (step_read_said w a) found r found'
    → StepReadFromC (step_finds v cells faces seconds bs fluxes outsides releases) cells faces seconds bs fluxes outsides releases
    found r fluxes' outsides' releases' found'
step-named e h a = rw (← e) (record {
  answer = answered-as alone _ h.answer a;
  fluxes_read = h.fluxes_read;
  outsides_read = h.outsides_read;
  releases_read = h.releases_read;
})
