-- What P comes to at most, and low-order q: the two stand in one entry of work.
use Prim.Native.Nat.{ℕ, ◌+◌, ◌*◌, ◌/◌, ◌^◌, ◌≤◌, ◌<◌}
use mathlib.Core.Path.{◌≡◌, ap, ◌∙◌}
use mathlib.Core.Bool.{Bool, true, false, cond}
use native.Mathlib.Nat.{mul-le-mul_left, mul-le-mul_right, div-le_of_le-mul, le_trans}
use native.Mathlib.Omega.{arith}
use lib.Dec.{eqb}
use lib.IntN.{ℤ}
use Rattle.signed.specs.Sign.{forward, backward, size}
use Rattle.signed.proofs.Laws.{size_is}
use Rattle.lists.specs.Fold.{sum}
use Rattle.lists.proofs.Sums.{sum_mono, sum-scale, sum-add}
use Rattle.model.specs.Mesh.{Mesh, first, second, volume, entering, leaving, incoming, outgoing, max_concentration}
use Rattle.model.specs.Step.{StepInput, flux, low, correction, low_concentration}
use Rattle.model.specs.Accepted.{Ready}
use Rattle.model.proofs.Low.{low-bounds}
use Rattle.model.proofs.Accepted.{hi-most}
use Rattle.step_cell.specs.Work.{over_q}
use Rattle.step_carrying.proofs.CarryLaws.{correction-within}

-- amounts x that are each at most b times the flux u
module _ (b : ℕ) where
  part : (z y : ℤ) → size z ≤ size y * b → (n m : ℕ) → n ≤ size z → size y ≤ m → n ≤ m * b
  part z y h n m k l = le_trans k (le_trans h (mul-le-mul_right b l))

  -- through one face, at a cell that is its second, or its first
  one : (s t : Bool) (z y : ℤ) → size z ≤ size y * b
      → cond s (forward z) 0 + cond t (backward z) 0 ≤ (cond s (forward y) 0 + cond t (backward y) 0 + (cond t (forward y) 0 + cond s (backward y) 0)) * b
  one true true z y h =
      part z y h (forward z + backward z) (forward y + backward y + (forward y + backward y)) (omega (arith, size_is z)) (omega (arith, size_is y))
  one true false z y h = part z y h (forward z + 0) (forward y + 0 + (0 + backward y)) (omega (arith, size_is z)) (omega (arith, size_is y))
  one false true z y h = part z y h (0 + backward z) (0 + backward y + (forward y + 0)) (omega (arith, size_is z)) (omega (arith, size_is y))
  one false false z y h = omega arith

  entering-by-flux : (M : Mesh) (x u : ℕ → ℤ) → ((f : ℕ) → f < M.faces → size (x f) ≤ size (u f) * b) → (c : ℕ)
      → incoming M x c ≤ (incoming M u c + outgoing M u c) * b
  unfolding incoming outgoing entering leaving
  entering-by-flux M x u small c =
      let e : sum M.faces (λ f. (entering M u c f + leaving M u c f) * b) ≡ (incoming M u c + outgoing M u c) * b =
      sum-scale M.faces b (λ f. entering M u c f + leaving M u c f) ∙ ap (λ (k : ℕ). k * b) (sum-add M.faces (entering M u c) (leaving M u c)) in
      rw (← e) (sum_mono M.faces (entering M x c) (λ f. (entering M u c f + leaving M u c f) * b)
      (λ f l. one (eqb (second M f) c) (eqb (first M f) c) (x f) (u f) (small f l)))

module _ (S : StepInput) (r : Ready S) where
  open S use {mesh as M}

  -- a cell's inflow and outflow are each at most its volume, by causes 9 and 10
  pub p-small : (c : ℕ) → c < M.cells → incoming M (correction S) c < 2 ^ 44
  p-small c h = omega (
    arith,
    entering-by-flux max_concentration M (correction S) (flux S) (correction-within S r) c,
    r.sound.level c h,
    r.sound.courant c h,
    r.fit.volume_most c h,
  )

  pub low-q-small : (c : ℕ) → c < M.cells → low_concentration S c < over_q
  unfolding low_concentration
  low-q-small c h =
      let l = low-bounds S r.sound c h in
      let t = mul-le-mul_left (volume M c) (hi-most S r c h) in
      let d : low S c ≤ volume M c * (max_concentration + 1) = omega (arith, l.1, t) in
      let q : low S c / volume M c ≤ max_concentration + 1 = div-le_of_le-mul (volume M c) d in
      omega arith
