-- In whatever parts a plain step is taken: if no q is rounded, the fractions are the same.
use Prim.Native.Nat.{ℕ, ◌*◌, ◌<◌}
use mathlib.Core.Path.{◌≡◌, ap}
use mathlib.Core.Logic.{◌≢◌}
use mathlib.Core.List.{List}
use native.Mathlib.Nat.{eq_of_mul-eq-mul_right}
use native.Mathlib.Omega.{arith}
use lib.ListN.{get_or}
use lib.IntN.{ℤ}
use Rattle.lists.proofs.Sums.{sum-cong, sum-scale}
use Rattle.model.specs.Mesh.{Mesh, volume, first, second, rim, entering, incoming, outgoing}
use Rattle.model.specs.Step.{StepInput, rounded_input, flux, concentration, carried, low, adjacent}
use Rattle.model.specs.Accepted.{Sound}
use Rattle.model.proofs.Low.{entering-carried, outgoing-carried, low-is}
use Rattle.plain.proofs.Mean.{met-both}

-- two fields on the same water, in D and in E parts
module _ (M : Mesh) (fluxes : List ℤ) (m o x p : List ℕ) (ok : Sound (rounded_input M m fluxes o)) (sound : Sound (rounded_input M x fluxes p)) (D E : ℕ)
    (same-outside : (f : ℕ) → get_or o f 0 * E ≡ get_or p f 0 * D) (same-mass : (c : ℕ) → c < M.cells → get_or m c 0 * E ≡ get_or x c 0 * D)
    (whole : (c : ℕ) → c < M.cells → concentration (rounded_input M m fluxes o) c * volume M c ≡ get_or m c 0)
    (whole' : (c : ℕ) → c < M.cells → concentration (rounded_input M x fluxes p) c * volume M c ≡ get_or x c 0) where
  abbrev A : StepInput
  A = rounded_input M m fluxes o

  abbrev B : StepInput
  B = rounded_input M x fluxes p

  same-q : (c : ℕ) → c < M.cells → concentration A c * E ≡ concentration B c * D
  same-q c h = eq_of_mul-eq-mul_right (volume M c) (ok.roomy c h) _ _
      (omega (arith, same-mass c h, ap (λ (t : ℕ). t * E) (whole c h), ap (λ (t : ℕ). t * D) (whole' c h)))

  same-adjacent : (c f : ℕ) → c < M.cells → f < M.faces → adjacent A c f * E ≡ adjacent B c f * D
  same-adjacent c f h l = met-both (λ a b. a * E ≡ b * D) M fluxes m o x p c f (same-q c h) (same-q (first M f) (ok.joined.first-in f l))
      (same-outside f) (λ d. same-q (second M f) (ok.joined.second_in f l d))

  same-entering : (c f : ℕ) → c < M.cells → f < M.faces → entering M (carried A) c f * E ≡ entering M (carried B) c f * D
  same-entering c f h l =
      let d : c ≢ rim = omega (arith, ok.joined.few) in
      rw (entering-carried A c f d, entering-carried B c f d) (omega (arith, ap (λ (t : ℕ). entering M (flux A) c f * t) (same-adjacent c f h l)))

  same-incoming : (c : ℕ) → c < M.cells → incoming M (carried A) c * E ≡ incoming M (carried B) c * D
  unfolding incoming
  same-incoming c h = omega (
    arith,
    sum-scale M.faces E (entering M (carried A) c),
    sum-scale M.faces D (entering M (carried B) c),
    sum-cong M.faces (λ f. entering M (carried A) c f * E) (λ f. entering M (carried B) c f * D) (λ f l. same-entering c f h l),
  )

  pub same_low : (c : ℕ) → c < M.cells → low A c * E ≡ low B c * D
  same_low c h = omega (
    arith,
    same-mass c h,
    same-incoming c h,
    ap (λ (t : ℕ). outgoing M (flux A) c * t) (same-q c h),
    ap (λ (t : ℕ). t * E) (rw (outgoing-carried A ok c h) at (low-is A ok c h)),
    ap (λ (t : ℕ). t * D) (rw (outgoing-carried B sound c h) at (low-is B sound c h)),
  )
