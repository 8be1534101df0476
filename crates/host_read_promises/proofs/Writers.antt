-- A writing of the width, or of the kind, that the host names.
use Prim.Native.Nat.{ℕ}
use mathlib.Core.Path.{◌≡◌}
use mathlib.Core.List.{List}
use lib.IntN.{ℤ}
use Rattle.model.specs.Mesh.{Mesh}
use Rattle.model.specs.Causes.{Verdict}
use Rattle.record_layouts.specs.Layouts.{kind_number}
use Rattle.record_layouts.specs.declared.Width.{Width}
use Rattle.record_layouts.specs.declared.StepKind.{StepKind}
use Rattle.record_writing.specs.Writing.{write_said, Writing, MeshWriting, FieldWriting, StepWriting}
use Rattle.host_answer.specs.Found.{alone, Answered}
use Rattle.host_answer.proofs.Answers.{answered-as}
use Rattle.host_read_promises.specs.Write.{WriteFromC, MeshWriteFromC, FieldWriteFromC, StepWriteFromC}
use Rattle.std.specs.Prelude.{Result}
use Rattle.model.specs.declared.Refusal.{Refusal}

module _ {a : Result ℕ Refusal} {bytes bytes' found : List ℕ} {r : ℕ} {found' : List ℕ} where
  wrote : {v : Verdict} {n : ℕ} {written : List ℕ} → Writing v n written bytes a bytes' → Answered alone (write_said a) found r found'
      → WriteFromC v n written bytes found r bytes' found'
  wrote h x = record { answer = answered-as alone _ h.answer x; bytes_written = h.bytes_written }

  module _ {w v : Width} (e : w ≡ v) (M : Mesh) where
    pub mesh-named : MeshWriting w M bytes a bytes' → Answered alone (write_said a) found r found' → MeshWriteFromC v M bytes found r bytes' found'
    mesh-named h x = rw (← e) (wrote h x)

    pub field-named : (masses : List ℕ) → FieldWriting w M masses bytes a bytes' → Answered alone (write_said a) found r found'
        → FieldWriteFromC v M masses bytes found r bytes' found'
    field-named masses h x = rw (← e) (wrote h x)

    pub step-named : {k j : StepKind} → k ≡ j → (fluxes : List ℤ) (outsides releases : List ℕ)
        → StepWriting w M (kind_number w k) fluxes outsides releases bytes a bytes'
        → Answered alone (write_said a) found r found' → StepWriteFromC v M (kind_number v j) fluxes outsides releases bytes found r bytes' found'
    step-named d fluxes outsides releases h x = rw (← e, ← d) (wrote h x)
