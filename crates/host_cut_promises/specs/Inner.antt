-- Cited by the contracts of inner functions only: no promise from C rests on these.
use Rattle.std.specs.Prelude.{ℕ, ◌≡◌, List, length, Result, Ok, Err}
use Rattle.lists.specs.Table.{over}
use Rattle.model.specs.Mesh.{Mesh}
use Rattle.model.specs.Answers.{told}
use Rattle.model.specs.Causes.{Outcome, accepted, Verdict, fine, ◌and_then◌, granted}
use Rattle.cutting_parts.specs.Cut.{Lagoon, whole_mesh}
use Rattle.cutting_parts.specs.Refusals.{cut_verdict}
use Rattle.record_layouts.specs.declared.Width.{Width}
use Rattle.record_heads.specs.Heads.{kind_in, width_in}
use Rattle.record_reading.specs.Reading.{mesh_in}
use Rattle.record_writing.specs.Writing.{mesh_write_verdict, field_write_verdict, step_write_verdict}
use Rattle.taking.specs.Taking.{step_record_found}
use Rattle.host_tested.specs.Tested.{field_tested, field_in}
use Rattle.host_cut_promises.specs.Cut.{Records, lengths_of, mesh_bytes, field_bytes, step_bytes, records_over, own_part, piece, both_lengths, lagoon_read, labelled, lagoon_in}
use Rattle.host_cut_promises.specs.declared.PartLengths.{PartLengths}
use Rattle.host_cut_promises.specs.declared.CutLengths.{CutLengths}
use Rattle.model.specs.declared.Refusal.{Refusal}

-- what the writers of a lagoon's records find, in rooms of so many bytes
module _ (w : Width) (kind : ℕ) (P : Lagoon) where
  abbrev pub mesh_finds : ℕ → Verdict
  mesh_finds = mesh_write_verdict w (whole_mesh P)

  abbrev pub field_finds : ℕ → Verdict
  field_finds = field_write_verdict w (whole_mesh P) P.tables.masses

  abbrev pub step_finds : ℕ → Verdict
  step_finds = step_write_verdict w (whole_mesh P) kind P.tables.fluxes P.tables.outsides P.tables.releases

  abbrev pub writers_find : (mesh field step : ℕ) → Verdict
  writers_find mesh field step = mesh_finds mesh and_then field_finds field and_then step_finds step

module _ (w : Width) (kind : ℕ) (L : Lagoon) (labels : List ℕ) where
  abbrev pub both_find : (m₀ f₀ s₀ m₁ f₁ s₁ : ℕ) → Verdict
  both_find m₀ f₀ s₀ m₁ f₁ s₁ = writers_find w kind (piece L labels 0) m₀ f₀ s₀ and_then writers_find w kind (piece L labels 1) m₁ f₁ s₁

  abbrev pub records_find : Records → Records → Verdict
  records_find a b = both_find (length a.mesh) (length a.field) (length a.step) (length b.mesh) (length b.field) (length b.step)

-- one record, of which its writer finds v: how many bytes it takes, and the bytes afterwards
pub record Wrote (v : Verdict) (n : ℕ) (written bytes : List ℕ) (k : ℕ) (bytes' : List ℕ) : Type 0 where
  pub takes : v ≡ fine → k ≡ n
  pub left : bytes' ≡ granted v (over written bytes) bytes

-- the bytes that a writing says it took
abbrev pub bytes_of : Result ℕ Refusal → ℕ
bytes_of (Ok n) = n
bytes_of (Err r) = 0

-- the three of a lagoon, each by its writer
pub record PieceWritten (w : Width) (kind : ℕ) (P : Lagoon) (lent : Records) (r : PartLengths) (after : Records) : Type 0 where
  pub mesh_wrote : Wrote (mesh_finds w kind P (length lent.mesh)) (lengths_of w kind P).mesh (mesh_bytes w kind P) lent.mesh r.mesh after.mesh
  pub field_wrote : Wrote (field_finds w kind P (length lent.field)) (lengths_of w kind P).field (field_bytes w kind P) lent.field r.field
      after.field
  pub step_wrote : Wrote (step_finds w kind P (length lent.step)) (lengths_of w kind P).step (step_bytes w kind P) lent.step r.step after.step

-- the bytes of both parts' records, or number and place
abbrev pub cut_said : Result CutLengths Refusal → Outcome CutLengths
cut_said (Ok n) = accepted n
cut_said (Err r) = told r

-- a cutting of which v is found before its records are written
pub record CutWritten (v : Verdict) (w : Width) (kind : ℕ) (L : Lagoon) (labels : List ℕ) (lent₀ lent₁ : Records) (r : Result CutLengths Refusal) (after₀ after₁ : Records)
    : Type 0 where
  pub answer : cut_said r ≡ (v and_then records_find w kind L labels lent₀ lent₁ and_then accepted (both_lengths w kind L labels))
  pub part_0 : after₀ ≡ granted (v and_then records_find w kind L labels lent₀ lent₁) (records_over w kind (piece L labels 0) lent₀) lent₀
  pub part_1 : after₁ ≡ granted (v and_then records_find w kind L labels lent₀ lent₁) (records_over w kind (piece L labels 1) lent₁) lent₁

-- the causes of cutting, on tables and after those of reading the step
abbrev pub cut_finds : Lagoon → List ℕ → Verdict
cut_finds L labels = cut_verdict L labels own_part own_part

unfoldable pub cut_judged : Width → Mesh → (masses step labels : List ℕ) → Verdict
cut_judged w M masses step labels = step_record_found w M step and_then cut_finds (lagoon_read M masses step) labels

abbrev pub cut_taken : (mesh field step labels : List ℕ) → Verdict
cut_taken mesh field step labels =
    labelled mesh labels and_then (field_tested mesh field and_then cut_judged (width_in mesh) (mesh_in mesh) (field_in mesh field) step labels)

-- on tables, on a mesh and a field that have been read, and on records
abbrev pub CutIn : Width → ℕ → Lagoon → List ℕ → Records → Records → (Result CutLengths Refusal) → Records → Records → Type 0
CutIn w kind L labels = CutWritten (cut_finds L labels) w kind L labels

abbrev pub CutOn : Width → Mesh → (masses step labels : List ℕ) → Records → Records → (Result CutLengths Refusal) → Records → Records → Type 0
CutOn w M masses step labels = CutWritten (cut_judged w M masses step labels) w (kind_in step) (lagoon_read M masses step) labels

abbrev pub CutTaking : (mesh field step labels : List ℕ) → Records → Records → (Result CutLengths Refusal) → Records → Records → Type 0
CutTaking mesh field step labels =
    CutWritten (field_tested mesh field and_then cut_judged (width_in mesh) (mesh_in mesh) (field_in mesh field) step labels) (width_in mesh) (kind_in step)
    (lagoon_in mesh field step) labels
