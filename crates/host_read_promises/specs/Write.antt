-- Document 01, "Causes", of writing, for a host in C: the length is found, and the record stands over the first bytes lent.
use Rattle.std.specs.Prelude.{ℕ, ◌≡◌, cond, ◌||◌, List, eqb, ℤ, length}
use Rattle.lists.specs.Table.{over}
use Rattle.model.specs.Mesh.{Mesh}
use Rattle.model.specs.Causes.{accepted, Verdict, ◌and_then◌, granted}
use Rattle.record_layouts.specs.Layouts.{mesh_kind, field_kind, outfall_kind, mesh_record, field_record, step_record, mesh_length, field_length, step_length}
use Rattle.record_layouts.specs.declared.Width.{Width}
use Rattle.record_layouts.specs.declared.Width.TheVariants.{Narrow, Wide}
use Rattle.record_layouts.specs.declared.StepKind.{StepKind}
use Rattle.record_layouts.specs.declared.StepKind.TheVariants.{Water, Outfalls}
use Rattle.record_writing.specs.Writing.{mesh_write_verdict, field_write_verdict, step_write_verdict}
use Rattle.host_answer.specs.Found.{alone, Answered}

-- Document 02, S-6 and S-10: a host names the kind of a step by its number, of which 4 and 8 hold releases
abbrev pub kind_named : ℕ → StepKind
kind_named named = cond (eqb named (outfall_kind Narrow) || eqb named (outfall_kind Wide)) Outfalls Water

-- a writer that finds v, of a record of n bytes; a refused writing leaves all bytes
pub record WriteFromC (v : Verdict) (n : ℕ) (written bytes found : List ℕ) (r : ℕ) (bytes' found' : List ℕ) : Type 0 where
  pub answer : Answered alone (v and_then accepted n) found r found'
  pub bytes_written : bytes' ≡ granted v (over written bytes) bytes

module _ (w : Width) (M : Mesh) where
  abbrev pub MeshWriteFromC : (bytes found : List ℕ) (r : ℕ) (bytes' found' : List ℕ) → Type 0
  MeshWriteFromC bytes = WriteFromC (mesh_write_verdict w M (length bytes)) (mesh_length (mesh_kind w) M.cells M.faces) (mesh_record (mesh_kind w) M) bytes

  abbrev pub FieldWriteFromC : (masses bytes found : List ℕ) (r : ℕ) (bytes' found' : List ℕ) → Type 0
  FieldWriteFromC masses bytes = WriteFromC (field_write_verdict w M masses (length bytes)) (field_length (field_kind w) M.cells)
      (field_record (field_kind w) M.cells masses) bytes

  abbrev pub StepWriteFromC : (kind : ℕ) (fluxes : List ℤ) (outsides releases bytes found : List ℕ) (r : ℕ) (bytes' found' : List ℕ) → Type 0
  StepWriteFromC kind fluxes outsides releases bytes = WriteFromC (step_write_verdict w M kind fluxes outsides releases (length bytes))
      (step_length kind M.cells M.faces M.seconds) (step_record kind M.cells M.faces M.seconds fluxes outsides releases) bytes
