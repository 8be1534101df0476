-- Document 02, S-9: steps on one lagoon that is numbered in two ways, with interior faces turned round in one of them; and steps that agree below their
-- counts, the case in which every cell and face keeps its number. Entries past the counts mean nothing.
use Rattle.std.specs.Prelude.{ℕ, ◌-◌, ◌<◌, ◌≡◌, ◌≢◌, Bool, true, false, cond, List, get_or, pos}
use Rattle.lists.specs.Renumbering.{Renumbering}
use Rattle.signed.specs.Sign.{turn}
use Rattle.model.specs.Mesh.{Mesh, volume, first, second, share, reach, at_rim, rim}
use Rattle.model.specs.Step.{StepInput, flux, outside, mass, concentration}
use Rattle.model.specs.Causes.{Outcome, accepted, refused, Call, release}

-- Face f' of M' is face f of M: as it was, or turned. Only an interior face is turned.
pub data Facing (M M' : Mesh) (cell : ℕ → ℕ) (f f' : ℕ) : Bool → Type 0 where
  straight : first M' f' ≡ cell (first M f) → second M' f' ≡ cond (at_rim M f) rim (cell (second M f)) → Facing M M' cell f f' false
  turned : second M f ≢ rim → first M' f' ≡ cell (second M f) → second M' f' ≡ cell (first M f) → Facing M M' cell f f' true

-- The faces of M' join the cells that those of M join, all renumbered, and are turned where `turns` says so by their old numbers.
pub record AlikeEnds (M M' : Mesh) (cell : Renumbering M.cells) (face : Renumbering M.faces) (turns : ℕ → Bool) : Type 0 where
  pub cells_same : M'.cells ≡ M.cells
  pub faces_same : M'.faces ≡ M.faces
  pub facing : (f : ℕ) → f < M.faces → Facing M M' cell.new f (face.new f) (turns f)

-- and volumes, shares and reaches are carried along, a turned face's share of the way being the rest of it
pub record AlikeMesh (M M' : Mesh) (cell : Renumbering M.cells) (face : Renumbering M.faces) (turns : ℕ → Bool) : Type 0 where
  pub ends_alike : AlikeEnds M M' cell face turns
  pub volume_same : (c : ℕ) → c < M.cells → volume M' (cell.new c) ≡ volume M c
  pub share_same : (f : ℕ) → f < M.faces → share M' (face.new f) ≡ cond (turns f) (256 - share M f) (share M f)
  pub reach_same : (f : ℕ) → f < M.faces → reach M' (face.new f) ≡ reach M f

-- the same with masses, q, fluxes and outside values carried along, a turned face's U negated
pub record Alike (S S' : StepInput) (cell : Renumbering S.mesh.cells) (face : Renumbering S.mesh.faces) (turns : ℕ → Bool) : Type 0 where
  pub mesh_alike : AlikeMesh S.mesh S'.mesh cell face turns
  pub mass_same : (c : ℕ) → c < S.mesh.cells → mass S' (cell.new c) ≡ mass S c
  pub q_same : (c : ℕ) → c < S.mesh.cells → concentration S' (cell.new c) ≡ concentration S c
  pub flux_same : (f : ℕ) → f < S.mesh.faces → flux S' (face.new f) ≡ turn (turns f) (flux S f)
  pub outside_same : (f : ℕ) → f < S.mesh.faces → outside S' (face.new f) ≡ outside S f

-- and two calls, each with the field lent to it: masses and releases by cells, fluxes and outside values by faces
pub record AlikeCall (M M' : Mesh) (field field' : List ℕ) (k k' : Call)
    (cell : Renumbering M.cells) (face : Renumbering M.faces) (turns : ℕ → Bool) : Type 0 where
  pub mesh_alike : AlikeMesh M M' cell face turns
  pub mass_same : (c : ℕ) → c < M.cells → get_or field' (cell.new c) 0 ≡ get_or field c 0
  pub release_same : (c : ℕ) → c < M.cells → release k' (cell.new c) ≡ release k c
  pub flux_same : (f : ℕ) → f < M.faces → get_or k'.fluxes (face.new f) (pos 0) ≡ turn (turns f) (get_or k.fluxes f (pos 0))
  pub outside_same : (f : ℕ) → f < M.faces → get_or k'.outsides (face.new f) 0 ≡ get_or k.outsides f 0

-- "refused with the same number", whatever the place: an outcome without its place
abbrev pub unplaced : {A : Type 0} → Outcome A → Outcome A
unplaced (accepted a) = accepted a
unplaced (refused cause place) = refused cause 0

-- M' has M's entries below the counts
pub record AgreeMesh (M M' : Mesh) : Type 0 where
  pub cells_same : M'.cells ≡ M.cells
  pub faces_same : M'.faces ≡ M.faces
  pub volumes : (c : ℕ) → c < M.cells → volume M' c ≡ volume M c
  pub firsts : (f : ℕ) → f < M.faces → first M' f ≡ first M f
  pub seconds : (f : ℕ) → f < M.faces → second M' f ≡ second M f
  pub shares : (f : ℕ) → f < M.faces → share M' f ≡ share M f
  pub reaches : (f : ℕ) → f < M.faces → reach M' f ≡ reach M f

-- and so has S' those of S
pub record Agree (S S' : StepInput) : Type 0 where
  pub mesh_agrees : AgreeMesh S.mesh S'.mesh
  pub masses : (c : ℕ) → c < S.mesh.cells → mass S' c ≡ mass S c
  pub q_agrees : (c : ℕ) → c < S.mesh.cells → concentration S' c ≡ concentration S c
  pub fluxes : (f : ℕ) → f < S.mesh.faces → flux S' f ≡ flux S f
  pub outsides : (f : ℕ) → f < S.mesh.faces → outside S' f ≡ outside S f

-- and two calls, each with the field lent to it
pub record AgreeCall (M M' : Mesh) (field field' : List ℕ) (k k' : Call) : Type 0 where
  pub mesh_agrees : AgreeMesh M M'
  pub masses : (c : ℕ) → c < M.cells → get_or field' c 0 ≡ get_or field c 0
  pub fluxes : (f : ℕ) → f < M.faces → get_or k'.fluxes f (pos 0) ≡ get_or k.fluxes f (pos 0)
  pub outsides : (f : ℕ) → f < M.faces → get_or k'.outsides f 0 ≡ get_or k.outsides f 0
  pub releases : (c : ℕ) → c < M.cells → release k' c ≡ release k c
