-- One plain step of two fields on the same water, the second in parts of which D make a unit. Where the concentrations are near, so are the
-- masses after it: a step takes the mean of the concentrations that the water brings together.
use Prim.Native.Nat.{ℕ, suc, ◌+◌, ◌-◌, ◌*◌, ◌≤◌, ◌<◌}
use mathlib.Core.Path.{◌≡◌, ap}
use mathlib.Core.Logic.{◌≢◌}
use mathlib.Core.Bool.{Bool, true, false, cond}
use mathlib.Core.List.{List}
use native.Mathlib.Nat.{mul-le-mul_left, mul-le-mul_right, add-sub_of_le}
use native.Mathlib.Omega.{arith}
use lib.ListN.{get_or}
use lib.Dec.{eqb}
use lib.IntN.{ℤ}
use Rattle.signed.specs.Sign.{is_zero, is_negative}
use Rattle.lists.proofs.Tests.{Same, other, same?}
use Rattle.lists.proofs.Sums.{sum_mono, sum-add, sum-scale}
use Rattle.model.specs.Mesh.{Mesh, volume, first, second, at_rim, rim, entering, incoming, outgoing}
use Rattle.model.specs.Step.{StepInput, rounded_input, flux, outside, mass, concentration, carried, low, adjacent}
use Rattle.model.specs.Accepted.{Sound}
use Rattle.model.proofs.Low.{entering-carried, outgoing-carried, low-is}

-- what a cell meets at a face, in two fields on the same water: related by R as their cells and outside values are
module _ (R : ℕ → ℕ → Type 0) (M : Mesh) (fluxes : List ℤ) (m o x p : List ℕ) where
  abbrev A : StepInput
  A = rounded_input M m fluxes o

  abbrev B : StepInput
  B = rounded_input M x fluxes p

  pub met-both : (c f : ℕ) → R (concentration A c) (concentration B c) → R (concentration A (first M f)) (concentration B (first M f))
      → R (get_or o f 0) (get_or p f 0) → (second M f ≢ rim → R (concentration A (second M f)) (concentration B (second M f)))
      → R (adjacent A c f) (adjacent B c f)
  unfolding adjacent
  met-both c f own near inflow across =
      go (is_zero (flux A f)) (eqb (first M f) c) (at_rim M f) (same? (second M f) rim) (is_negative (flux A f)) (eqb (second M f) c)
    where
      met : (S : StepInput) (a s r n t : Bool) → ℕ
      met S a s r n t = cond a (concentration S c) (cond s (cond r (cond n (outside S f) (concentration S c)) (concentration S (second M f)))
          (cond t (concentration S (first M f)) (concentration S c)))

      go : (a s r : Bool) → Same (second M f) rim r → (n t : Bool) → R (met A a s r n t) (met B a s r n t)
      go true s r rr n t = own
      go false true true rr true t = inflow
      go false true true rr false t = own
      go false true false (other d) n t = across d
      go false false r rr n true = near
      go false false r rr n false = own

-- b/D lies between a − n and a + n + 1
pub record Near (D n a b : ℕ) : Type 0 where
  pub above : a * D ≤ b + n * D
  pub below : b < a * D + (n * D + D)

-- A cell of volume O + R. In the first field it holds m at concentration q, rounded down, and in the second X at concentration r, not rounded;
-- it loses O of its water and gains G and H with as much.
mean : (O R D n m q G low X r H fine : ℕ) → 1 ≤ O + R → 1 ≤ D → Near D n q r → q * (O + R) ≤ m → m < q * (O + R) + (O + R) → r * (O + R) ≡ X
    → G * D ≤ H + O * (n * D) → H + O ≤ G * D + O * (n * D + D) → low + O * q ≡ m + G → fine + O * r ≡ X + H
    → (low * D < fine + suc n * ((O + R) * D)) × (fine < low * D + suc n * ((O + R) * D))
mean O R D n m q G low X r H fine a b near c d e g h i j = (
  omega (arith, mul-le-mul_left R near.above, mul-le-mul_right D d, ap (λ (t : ℕ). t * D) i),
  omega (arith, mul-le-mul_left R near.below, mul-le-mul_right D c, ap (λ (t : ℕ). t * D) i),
)

module _ (M : Mesh) (fluxes : List ℤ) (m o x p : List ℕ) where
  abbrev coarse : StepInput
  coarse = rounded_input M m fluxes o

  abbrev fine : StepInput
  fine = rounded_input M x fluxes p

  module _ (ok : Sound coarse) (sound : Sound fine) (D n : ℕ) (some : 1 ≤ D) (outside-in-parts : (f : ℕ) → get_or p f 0 ≡ get_or o f 0 * D)
      (near : (c : ℕ) → c < M.cells → Near D n (concentration coarse c) (concentration fine c)) where
    near-outside : (f : ℕ) → Near D n (get_or o f 0) (get_or p f 0)
    near-outside f = rw (outside-in-parts f) (record { above = omega arith; below = omega arith })

    near-adjacent : (c f : ℕ) → c < M.cells → f < M.faces → Near D n (adjacent coarse c f) (adjacent fine c f)
    near-adjacent c f h l = met-both (Near D n) M fluxes m o x p c f (near c h) (near (first M f) (ok.joined.first-in f l)) (near-outside f)
        (λ d. near (second M f) (ok.joined.second_in f l d))

    -- the water that enters a cell through a face
    abbrev inflow : ℕ → ℕ → ℕ
    inflow c f = entering M (flux coarse) c f

    -- what enters a cell, by that water
    brings : (c f : ℕ) → c < M.cells
        → (entering M (carried coarse) c f ≡ inflow c f * adjacent coarse c f) × (entering M (carried fine) c f ≡ inflow c f * adjacent fine c f)
    brings c f h = let d : c ≢ rim = omega (arith, ok.joined.few) in (entering-carried coarse c f d, entering-carried fine c f d)

    incoming-above : (c : ℕ) → c < M.cells → incoming M (carried coarse) c * D ≤ incoming M (carried fine) c + incoming M (flux coarse) c * (n * D)
    unfolding incoming
    incoming-above c h = omega (
      arith,
      sum-scale M.faces D (entering M (carried coarse) c),
      sum-scale M.faces (n * D) (inflow c),
      sum-add M.faces (entering M (carried fine) c) (λ f. inflow c f * (n * D)),
      sum_mono M.faces (λ f. entering M (carried coarse) c f * D) (λ f. entering M (carried fine) c f + inflow c f * (n * D))
          (λ f l. rw ((brings c f h).0, (brings c f h).1) (omega (arith, mul-le-mul_left (inflow c f) (near-adjacent c f h l).above))),
    )

    incoming-below : (c : ℕ) → c < M.cells
        → incoming M (carried fine) c + incoming M (flux coarse) c ≤ incoming M (carried coarse) c * D + incoming M (flux coarse) c * (n * D + D)
    unfolding incoming
    incoming-below c h = omega (
      arith,
      sum-scale M.faces D (entering M (carried coarse) c),
      sum-scale M.faces (n * D + D) (inflow c),
      sum-add M.faces (entering M (carried fine) c) (inflow c),
      sum-add M.faces (λ f. entering M (carried coarse) c f * D) (λ f. inflow c f * (n * D + D)),
      sum_mono M.faces (λ f. entering M (carried fine) c f + inflow c f) (λ f. entering M (carried coarse) c f * D + inflow c f * (n * D + D))
          (λ f l. rw ((brings c f h).0, (brings c f h).1) (omega (arith, mul-le-mul_left (inflow c f) (near-adjacent c f h l).below))),
    )

    -- one step adds less than one to the error
    pub mean-step : (c : ℕ) → c < M.cells → concentration fine c * volume M c ≡ mass fine c
        → (low coarse c * D < low fine c + suc n * (volume M c * D)) × (low fine c < low coarse c * D + suc n * (volume M c * D))
    mean-step c h whole =
        let v = add-sub_of_le (ok.courant c h) in
        rw v at
        (mean (outgoing M (flux coarse) c) (volume M c - outgoing M (flux coarse) c) D n
        (mass coarse c) (concentration coarse c) (incoming M (carried coarse) c) (low coarse c)
        (mass fine c) (concentration fine c) (incoming M (carried fine) c) (low fine c)
        (rw v (ok.roomy c h)) some (near c h) (rw v (omega (arith, ok.salt_there c h))) (rw v (omega (arith, ok.rest_below c h)))
        (rw v whole) (rw (ok.level c h) at (incoming-above c h)) (rw (ok.level c h) at (incoming-below c h))
        (rw (outgoing-carried coarse ok c h) at (low-is coarse ok c h)) (rw (outgoing-carried fine sound c h) at (low-is fine sound c h)))
