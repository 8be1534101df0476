-- What the causes of documents 01 and 02 leave true of a call that passes them; contracts ask for it by these names.
use Rattle.std.specs.Prelude.{ℕ, ◌+◌, ◌-◌, ◌*◌, ◌≤◌, ◌<◌, ◌≡◌, ◌≢◌, cond, List, length}
use Rattle.signed.specs.Sign.{size}
use Rattle.model.specs.Mesh.{Mesh, volume, first, second, share, reach, at_rim, rim, incoming, outgoing, max_cells, max_faces, max_volume, max_share, max_reach, max_concentration, max_rim_flux}
use Rattle.model.specs.Step.{StepInput, mass, flux, outside, concentration}
use Rattle.model.specs.Causes.{Call, work_length}

-- the largest mass that passes a face with the water, and the largest mass of a cell
abbrev pub max_carried : ℕ
max_carried = max_rim_flux * max_concentration

abbrev pub max_mass : ℕ
max_mass = max_volume * max_concentration + max_volume - 1

-- past cause 1
pub record Counted (M : Mesh) : Type 0 where
  pub some : 1 ≤ M.cells
  pub few_cells : M.cells ≤ max_cells
  pub few_faces : M.faces ≤ max_faces

-- past cause 2: of tables of so many entries, and of those of a mesh
pub record MeshLong (cells faces volumes firsts seconds shares reaches : ℕ) : Type 0 where
  pub volumes_long : cells ≤ volumes
  pub firsts_long : faces ≤ firsts
  pub seconds_long : faces ≤ seconds
  pub shares_long : faces ≤ shares
  pub reaches_long : faces ≤ reaches

abbrev pub MeshLent : Mesh → Type 0
MeshLent M = MeshLong M.cells M.faces (length M.volumes) (length M.firsts) (length M.seconds) (length M.shares) (length M.reaches)

pub record CallLent (M : Mesh) (k : Call) : Type 0 where
  pub fluxes_long : M.faces ≤ length k.fluxes
  pub outsides_long : M.faces ≤ length k.outsides
  pub nexts_long : M.cells ≤ length k.nexts
  pub moveds_long : M.faces ≤ length k.moveds
  pub work_long : work_length M ≤ length k.work
  pub releases_long : M.cells ≤ length k.releases

-- the same of a judging (S-11), which is lent no work
pub record ClaimLent (M : Mesh) (k : Call) : Type 0 where
  pub fluxes_long : M.faces ≤ length k.fluxes
  pub outsides_long : M.faces ≤ length k.outsides
  pub nexts_long : M.cells ≤ length k.nexts
  pub moveds_long : M.faces ≤ length k.moveds
  pub releases_long : M.cells ≤ length k.releases

-- as far as the tests of a step's values read tables, past causes 1 and 2
pub record StepLent (M : Mesh) (field : List ℕ) (k : Call) : Type 0 where
  pub counts_fit : Counted M
  pub lent : MeshLent M
  pub masses_long : M.cells ≤ length field
  pub fluxes_long : M.faces ≤ length k.fluxes
  pub outsides_long : M.faces ≤ length k.outsides
  pub releases_long : M.cells ≤ length k.releases

-- past causes 3 to 5
pub record MeshFit (M : Mesh) : Type 0 where
  pub volume_some : (c : ℕ) → c < M.cells → 1 ≤ volume M c
  pub volume_most : (c : ℕ) → c < M.cells → volume M c ≤ max_volume
  pub first-in : (f : ℕ) → f < M.faces → first M f < M.cells
  pub second_in : (f : ℕ) → f < M.faces → second M f ≢ rim → second M f < M.cells
  pub apart : (f : ℕ) → f < M.faces → first M f ≢ second M f
  pub share_most : (f : ℕ) → f < M.faces → share M f ≤ max_share
  pub reach_some : (f : ℕ) → f < M.faces → second M f ≢ rim → 1 ≤ reach M f
  pub reach_most : (f : ℕ) → f < M.faces → reach M f ≤ max_reach

-- past causes 7 and 8
pub record WaterFit (S : StepInput) : Type 0 where
  pub outside_most : (f : ℕ) → f < S.mesh.faces → outside S f ≤ max_concentration
  pub flux_most : (f : ℕ) → f < S.mesh.faces → size (flux S f) ≤ cond (at_rim S.mesh f) max_rim_flux (reach S.mesh f)

-- every face joins a cell to another, or to the rim
pub record Joined (M : Mesh) : Type 0 where
  pub few : M.cells ≤ rim
  pub first-in : (f : ℕ) → f < M.faces → first M f < M.cells
  pub second_in : (f : ℕ) → f < M.faces → second M f ≢ rim → second M f < M.cells

-- what document 01's causes leave true of an accepted step, as far as the bounds need it: of q, that V·q ≤ m < V·q + V
pub record Sound (S : StepInput) : Type 0 where
  pub joined : Joined S.mesh
  pub roomy : (c : ℕ) → c < S.mesh.cells → 1 ≤ volume S.mesh c
  pub salt_there : (c : ℕ) → c < S.mesh.cells → volume S.mesh c * concentration S c ≤ mass S c
  pub rest_below : (c : ℕ) → c < S.mesh.cells → mass S c < volume S.mesh c * concentration S c + volume S.mesh c
  pub level : (c : ℕ) → c < S.mesh.cells → incoming S.mesh (flux S) c ≡ outgoing S.mesh (flux S) c
  pub courant : (c : ℕ) → c < S.mesh.cells → outgoing S.mesh (flux S) c ≤ volume S.mesh c

-- all that acceptance says of what a step works on
pub record Ready (S : StepInput) : Type 0 where
  pub counts_fit : Counted S.mesh
  pub lent : MeshLent S.mesh
  pub fit : MeshFit S.mesh
  pub masses_long : S.mesh.cells ≤ length S.masses
  pub fluxes_long : S.mesh.faces ≤ length S.fluxes
  pub outsides_long : S.mesh.faces ≤ length S.outsides
  pub salt_most : (c : ℕ) → c < S.mesh.cells → concentration S c ≤ max_concentration
  pub water : WaterFit S
  pub sound : Sound S
