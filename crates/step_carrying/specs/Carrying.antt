-- The state of the pass that carries salt: document 01, "One step", stages 1 to 3, as far as faces have been passed.
use Rattle.std.specs.Prelude.{ℕ, ◌+◌, ◌*◌, ◌<◌, ◌≡◌, cond, List, ℤ, pos, length, get_or}
use Rattle.lists.specs.Fold.{sum, least, greatest}
use Rattle.signed.specs.Sign.{forward, backward}
use Rattle.model.specs.Mesh.{mesh_of, at_rim, first}
use Rattle.model.specs.Step.{StepInput, flux, outside, mass, concentration, carried, correction, adjacent}
use Rattle.model.specs.Causes.{input_of, water_of}
use Rattle.model.specs.Accepted.{Ready}
use Rattle.step_face.specs.Correction.{decoded}
use Rattle.step_face.specs.Exchange.{Flowing}
use Rattle.step_cell.specs.Work.{of_cell, of_face}

-- what a step works on, from the tables lent to a pass
abbrev pub input_from : ℕ → ℕ → List ℕ → List ℕ → List ℕ → List ℕ → List ℕ → List ℕ → List ℤ → List ℕ → List ℕ → StepInput
input_from cells faces volumes firsts seconds shares reaches masses fluxes outsides releases =
    input_of (mesh_of cells faces volumes firsts seconds shares reaches) masses (water_of fluxes outsides releases)

-- the in-mass and the out-mass of the faces below f
abbrev pub in_mass_to : StepInput → ℕ → ℕ
in_mass_to S f = sum f (λ g. cond (at_rim S.mesh g) (backward (flux S g) * outside S g) 0)

abbrev pub out_mass_to : StepInput → ℕ → ℕ
out_mass_to S f = sum f (λ g. cond (at_rim S.mesh g) (forward (flux S g) * concentration S (first S.mesh g)) 0)

-- Pass 2, after the faces below f: what crossed the rim, carried masses, bounds so far, and the corrections in the faces' entries
pub record CarriedTo (S : StepInput) (f entered gone : ℕ) (next : List ℕ) (moved : List ℤ) (work : List ℕ) : Type 0 where
  pub entered_is : entered ≡ in_mass_to S f
  pub gone_is : gone ≡ out_mass_to S f
  pub flowing : Flowing S.mesh (carried S) (mass S) f next
  pub moved_long : length moved ≡ S.mesh.faces
  pub moved_at : (g : ℕ) → g < f → get_or moved g (pos 0) ≡ carried S g
  pub work_long : length work ≡ 4 * S.mesh.cells + S.mesh.faces
  pub q_at : (c : ℕ) → c < S.mesh.cells → of_cell work c 0 ≡ concentration S c
  pub lo_at : (c : ℕ) → c < S.mesh.cells → of_cell work c 1 ≡ least f (concentration S c) (adjacent S c)
  pub hi_at : (c : ℕ) → c < S.mesh.cells → of_cell work c 2 ≡ greatest f (concentration S c) (adjacent S c)
  pub code_at : (g : ℕ) → g < f → decoded (of_face work S.mesh.cells g) ≡ correction S g

-- What the pass by faces is not lent of a step: the masses start in next, q stands in work, and no face asks a volume.
pub record Unseen : Type 0 where
  pub volumes : List ℕ
  pub masses : List ℕ
  pub q : ℕ → ℕ

-- the step through the faces that it is lent
abbrev pub step_through : ℕ → ℕ → List ℕ → List ℕ → List ℕ → List ℕ → List ℤ → List ℕ → Unseen → StepInput
step_through cells faces firsts seconds shares reaches fluxes outsides u =
    record { mesh = mesh_of cells faces u.volumes firsts seconds shares reaches; masses = u.masses; q = u.q; fluxes = fluxes; outsides = outsides }

-- pass 2 of an accepted step has come to face f
pub record AtFace (through : Unseen → StepInput) (f entered gone : ℕ) (next : List ℕ) (moved : List ℤ) (work : List ℕ) : Type 0 where
  pub unseen : Unseen
  pub ready : Ready (through unseen)
  pub so_far : CarriedTo (through unseen) f entered gone next moved work

-- of whichever step it is, pass 2 goes on from face f to face g
abbrev pub CarriedFrom : (Unseen → StepInput) → (f entered gone : ℕ) → List ℕ → List ℤ → List ℕ → (g entered' gone' : ℕ) → List ℕ → List ℤ → List ℕ → Type 0
CarriedFrom through f entered gone next moved work g entered' gone' next' moved' work' =
    (u : Unseen) → Ready (through u) → CarriedTo (through u) f entered gone next moved work → CarriedTo (through u) g entered' gone' next' moved' work'
