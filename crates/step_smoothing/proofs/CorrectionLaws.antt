-- A face's correction in one number: its size, and where it enters and leaves.
use Prim.Native.Nat.{ℕ, ◌/◌, ◌%◌, ◌<◌}
use mathlib.Core.Path.{◌≡◌, sym, ◌∙◌}
use mathlib.Core.Logic.{◌≢◌}
use mathlib.Core.Bool.{Bool, true, false, cond}
use mathlib.Core.List.{List}
use lib.Dec.{eqb}
use Rattle.signed.specs.Sign.{size}
use Rattle.signed.proofs.Laws.{size-with_sign}
use Rattle.model.specs.Mesh.{Mesh, first, second}
use Rattle.step_cell.specs.Work.{of_face}
use Rattle.step_face.specs.Correction.{over_sign}
use Rattle.step_smoothing.specs.Corrections.{corrections, CorrectionsIn, enters, leaves}

-- what holds of both ends holds of either
pub either_end : (P : ℕ → Type 0) (b : Bool) {l k : ℕ} → P l → P k → P (cond b l k)
either_end P true p q = p
either_end P false p q = q

pub end-holds : (P : ℕ → Type 0) (b : Bool) {l k e : ℕ} → e ≡ cond b l k → P l → P k → P e
end-holds P b d p q = rw d (either_end P b p q)

module _ (M : Mesh) (w : List ℕ) (s : CorrectionsIn M w) (f : ℕ) (h : f < M.faces) where
  abbrev pub code : ℕ
  code = of_face w M.cells f

  pub size_is : size (corrections M.cells w f) ≡ code / over_sign
  size_is = size-with_sign (eqb (code % 2) 1) (code / over_sign)

  -- a correction of some size stands inside
  pub inside : code / over_sign ≢ 0 → (first M f < M.cells) × (second M f < M.cells)
  inside d = ((s.ends f h).first-in, (s.ends f h).second_in (λ e. d (sym size_is ∙ s.rim_none f h e)))

  pub enters-in : code / over_sign ≢ 0 → enters code (first M f) (second M f) < M.cells
  enters-in d = either_end (λ c. c < M.cells) (eqb (code % 2) 1) (inside d).0 (inside d).1

  pub leaves_in : code / over_sign ≢ 0 → leaves code (first M f) (second M f) < M.cells
  leaves_in d = either_end (λ c. c < M.cells) (eqb (code % 2) 1) (inside d).1 (inside d).0
