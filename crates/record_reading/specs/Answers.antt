-- Document 01, "What form each place needs", of answers: what the answer of a reading says, and what each reading leaves.
use Rattle.std.specs.Prelude.{ℕ, ◌≡◌, List, ℤ, Result, Ok, Err}
use Rattle.lists.specs.Table.{over}
use Rattle.model.specs.Mesh.{Mesh, mesh_of}
use Rattle.model.specs.Causes.{Outcome, accepted, Verdict, granted}
use Rattle.model.specs.Answers.{told, said}
use Rattle.record_layouts.specs.declared.Width.{Width}
use Rattle.record_layouts.specs.Layouts.{kind_number}
use Rattle.record_reading.specs.declared.MeshCounts.{MeshCounts}
use Rattle.record_reading.specs.Reading.{mesh_in, mesh_read_into, masses_in, fluxes_in, outsides_in, releases_in}
use Rattle.model.specs.Meshes.{over_mesh}
use Rattle.model.specs.declared.Refusal.{Refusal}
use Rattle.record_layouts.specs.declared.StepKind.{StepKind}

abbrev pub mesh_said : Result MeshCounts Refusal → Outcome MeshCounts
mesh_said (Ok n) = accepted n
mesh_said (Err r) = told r

-- the mesh that stands in tables, of the counts that were read
abbrev pub counting : MeshCounts → Mesh → Mesh
counting n left = mesh_of n.cells n.faces left.volumes left.firsts left.seconds left.shares left.reaches

-- document 02, S-6: a step's answer says the number of its kind
abbrev pub step_read_said : Width → (Result StepKind Refusal) → Outcome ℕ
step_read_said w (Ok kind) = accepted (kind_number w kind)
step_read_said w (Err r) = told r

-- Document 01, "Causes", of reading. A reading that comes to o: its answer, and the tables afterwards, those of a mesh as one value. The counted
-- entries are filled and no others; a refused reading fills nothing.
pub record MeshReading (o : Outcome MeshCounts) (bs : List ℕ) (lent : Mesh) (r : Result MeshCounts Refusal) (left : Mesh) : Type 0 where
  pub answer : mesh_said r ≡ o
  pub mesh-read : left ≡ granted o (over_mesh (mesh_in bs) lent) lent

abbrev pub MeshReads : List ℕ → Mesh → (Result MeshCounts Refusal) → Mesh → Type 0
MeshReads bs lent = MeshReading (mesh_read_into bs lent) bs lent

pub record FieldReading (o : Verdict) (cells : ℕ) (bs masses : List ℕ) (r : Result (Unit {0}) Refusal) (masses' : List ℕ) : Type 0 where
  pub answer : said r ≡ o
  pub masses_read : masses' ≡ granted o (over (masses_in bs cells) masses) masses

pub record StepReading (w : Width) (o : Outcome ℕ) (cells faces : ℕ) (seconds bs : List ℕ) (fluxes : List ℤ) (outsides releases : List ℕ)
    (r : Result StepKind Refusal) (fluxes' : List ℤ) (outsides' releases' : List ℕ) : Type 0 where
  pub answer : step_read_said w r ≡ o
  pub fluxes_read : fluxes' ≡ granted o (over (fluxes_in bs faces) fluxes) fluxes
  pub outsides_read : outsides' ≡ granted o (over (outsides_in bs faces seconds) outsides) outsides
  pub releases_read : releases' ≡ granted o (over (releases_in bs cells faces seconds) releases) releases
