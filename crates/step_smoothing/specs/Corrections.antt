-- The corrections of the faces, as the passes between stages 2 and 5 of document 01 find them in work.
use Rattle.std.specs.Prelude.{ℕ, ◌+◌, ◌*◌, ◌%◌, ◌≤◌, ◌<◌, ◌≡◌, cond, List, [], eqb, ℤ, length}
use Rattle.signed.specs.Sign.{size}
use Rattle.model.specs.Accepted.{max_carried}
use Rattle.model.specs.Mesh.{Mesh, mesh_of, rim, max_faces, first, second}
use Rattle.step_face.specs.Correction.{decoded}
use Rattle.step_face.specs.Exchange.{EndsIn}
use Rattle.step_cell.specs.Work.{of_face}

-- a mesh of which only the faces' ends matter
abbrev pub ends_of : ℕ → ℕ → List ℕ → List ℕ → Mesh
ends_of cells faces firsts seconds = mesh_of cells faces [] firsts seconds [] []

-- the cell that a correction in one number enters, and the one that it leaves
abbrev pub enters : ℕ → ℕ → ℕ → ℕ
enters code l k = cond (eqb (code % 2) 1) l k

abbrev pub leaves : ℕ → ℕ → ℕ → ℕ
leaves code l k = cond (eqb (code % 2) 1) k l

-- the corrections that work w holds in its faces' entries
abbrev pub corrections : ℕ → List ℕ → ℕ → ℤ
corrections cells w f = decoded (of_face w cells f)

-- they are small, and none crosses the rim
pub record CorrectionsIn (M : Mesh) (w : List ℕ) : Type 0 where
  pub few_cells : M.cells ≤ rim
  pub few_faces : M.faces ≤ max_faces
  pub firsts_long : M.faces ≤ length M.firsts
  pub seconds_long : M.faces ≤ length M.seconds
  pub work_long : length w ≡ 4 * M.cells + M.faces
  pub ends : (f : ℕ) → f < M.faces → EndsIn M.cells (first M f) (second M f)
  pub rim_none : (f : ℕ) → f < M.faces → second M f ≡ rim → size (corrections M.cells w f) ≡ 0
  pub size_most : (f : ℕ) → f < M.faces → size (corrections M.cells w f) ≤ max_carried
