-- Document 01, "Causes", of writing: what writing a record gives. What it refuses is defined in record_causes, and passed on here.
use Rattle.std.specs.Prelude.{◌≡◌, List, ℕ, length, ℤ, Result, Ok, Err}
use Rattle.lists.specs.Table.{over}
use Rattle.model.specs.Mesh.{Mesh}
use Rattle.model.specs.Answers.{told}
use Rattle.model.specs.Causes.{Outcome, accepted, Verdict, ◌and_then◌, granted}
use Rattle.record_layouts.specs.Layouts.{mesh_kind, field_kind, mesh_record, field_record, step_record, mesh_length, field_length, step_length}
use Rattle.record_layouts.specs.declared.Width.{Width}
pub use Rattle.record_causes.specs.Verdicts.{release_fits, releases_fit, most_of}
use Rattle.model.specs.declared.Refusal.{Refusal}
unfoldable pub use Rattle.record_causes.specs.Verdicts.{mesh_write_verdict, field_write_verdict, step_write_verdict}

-- What the answer of a writing says.
abbrev pub write_said : Result ℕ Refusal → Outcome ℕ
write_said (Ok n) = accepted n
write_said (Err r) = told r

-- Writing answers the length and leaves the bytes past it; a refused writing leaves all.
pub record Writing (v : Verdict) (n : ℕ) (written bytes : List ℕ) (r : Result ℕ Refusal) (bytes' : List ℕ) : Type 0 where
  pub answer : write_said r ≡ (v and_then accepted n)
  pub bytes_written : bytes' ≡ granted v (over written bytes) bytes

-- What each writer promises: its answer, and the bytes afterwards.
module _ (w : Width) (M : Mesh) where
  abbrev pub MeshWriting : List ℕ → (Result ℕ Refusal) → List ℕ → Type 0
  MeshWriting bytes = Writing (mesh_write_verdict w M (length bytes)) (mesh_length (mesh_kind w) M.cells M.faces) (mesh_record (mesh_kind w) M) bytes

  abbrev pub FieldWriting : List ℕ → List ℕ → (Result ℕ Refusal) → List ℕ → Type 0
  FieldWriting masses bytes = Writing (field_write_verdict w M masses (length bytes)) (field_length (field_kind w) M.cells)
      (field_record (field_kind w) M.cells masses) bytes

  abbrev pub StepWriting : (kind : ℕ) → List ℤ → List ℕ → List ℕ → List ℕ → (Result ℕ Refusal) → List ℕ → Type 0
  StepWriting kind fluxes outsides releases bytes = Writing (step_write_verdict w M kind fluxes outsides releases (length bytes))
      (step_length kind M.cells M.faces M.seconds) (step_record kind M.cells M.faces M.seconds fluxes outsides releases) bytes
