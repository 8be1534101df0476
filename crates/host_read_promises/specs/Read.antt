-- Document 01, "Causes", of reading, for a host in C. Document 02, S-10: the width is a number there, 0 for the narrow records; S-6: a step's
-- reader finds the number of its kind.
use Rattle.std.specs.Prelude.{ℕ, ◌≡◌, cond, List, [], ◌∷◌, eqb, ℤ, length}
use Rattle.lists.specs.Table.{over}
use Rattle.model.specs.Mesh.{Mesh, mesh_of, max_cells, max_faces}
use Rattle.model.specs.Causes.{Outcome, granted}
use Rattle.record_layouts.specs.declared.Width.{Width}
use Rattle.record_layouts.specs.declared.Width.TheVariants.{Narrow, Wide}
use Rattle.record_reading.specs.declared.MeshCounts.{MeshCounts}
use Rattle.record_reading.specs.Reading.{mesh_in, masses_in, fluxes_in, outsides_in, releases_in, mesh_read_into, field_read, step_read}
use Rattle.model.specs.Meshes.{over_mesh}
use Rattle.host_answer.specs.Number.{number_of}
use Rattle.host_answer.specs.Found.{alone, Answered}

abbrev pub width_number : Width → ℕ
width_number Narrow = 0
width_number Wide = 1

abbrev pub width_named : ℕ → Width
width_named named = cond (eqb named 0) Narrow Wide

-- cells, faces and width
abbrev pub counts_found : MeshCounts → List ℕ
counts_found n = n.cells ∷ n.faces ∷ width_number n.width ∷ []

-- The reading of a mesh within the limits of document 01, which are the counts of the tables that are lent.
abbrev pub lent_mesh : (volumes firsts seconds shares reaches : List ℕ) → Mesh
lent_mesh = mesh_of max_cells max_faces

pub record MeshReadFromC (bs : List ℕ) (lent : Mesh) (found : List ℕ) (r : ℕ) (left : Mesh) (found' : List ℕ) : Type 0 where
  pub answer : Answered counts_found (mesh_read_into bs lent) found r found'
  pub mesh-read : left ≡ granted (mesh_read_into bs lent) (over_mesh (mesh_in bs) lent) lent

pub record FieldReadFromC (w : Width) (cells : ℕ) (bs masses : List ℕ) (r : ℕ) (masses' : List ℕ) : Type 0 where
  pub number : r ≡ number_of (field_read w cells bs (length masses))
  pub masses_read : masses' ≡ granted (field_read w cells bs (length masses)) (over (masses_in bs cells) masses) masses

-- and that of a step
abbrev pub step_finds : Width → (cells faces : ℕ) (seconds bs : List ℕ) (fluxes : List ℤ) (outsides releases : List ℕ) → Outcome ℕ
step_finds w cells faces seconds bs fluxes outsides releases = step_read w cells faces seconds bs (length fluxes) (length outsides) (length releases)

pub record StepReadFromC (o : Outcome ℕ) (cells faces : ℕ) (seconds bs : List ℕ) (fluxes : List ℤ) (outsides releases found : List ℕ)
    (r : ℕ) (fluxes' : List ℤ) (outsides' releases' found' : List ℕ) : Type 0 where
  pub answer : Answered alone o found r found'
  pub fluxes_read : fluxes' ≡ granted o (over (fluxes_in bs faces) fluxes) fluxes
  pub outsides_read : outsides' ≡ granted o (over (outsides_in bs faces seconds) outsides) outsides
  pub releases_read : releases' ≡ granted o (over (releases_in bs cells faces seconds) releases) releases
