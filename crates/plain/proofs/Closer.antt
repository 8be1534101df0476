-- How far apart two masses are, the second in parts of which D make a unit, in a cell of volume v: from one plain step to the next.
use Prim.Native.Nat.{ℕ, suc, ◌+◌, ◌*◌, ◌≤◌, ◌<◌}
use mathlib.Core.Path.{◌≡◌}
use mathlib.Core.List.{List}
use native.Mathlib.Nat.{mul-le-mul_right, le_of_mul-le-mul_right, lt_of_mul-lt-mul_right, mul-lt-mul_of_pos_right}
use native.Mathlib.Omega.{arith}
use lib.ListN.{get_or}
use lib.IntN.{ℤ}
use Rattle.model.specs.Mesh.{Mesh, volume}
use Rattle.model.specs.Step.{StepInput, rounded_input, mass, concentration, low}
use Rattle.model.specs.Accepted.{Sound}
use Rattle.plain.proofs.Mean.{Near, mean-step}

-- m and x/D differ by at most n·v, and by less
pub record Within (n v D m x : ℕ) : Type 0 where
  pub above : m * D ≤ x + n * (v * D)
  pub below : x ≤ m * D + n * (v * D)

pub record Closer (n v D m x : ℕ) : Type 0 where
  pub above : m * D < x + n * (v * D)
  pub below : x < m * D + n * (v * D)

pub weaker : {n v D m x : ℕ} → Closer n v D m x → Within n v D m x
weaker c = record { above = omega (arith, c.above); below = omega (arith, c.below) }

-- the same release r into both, and each part cut into P
pub released-both : (n v A m x r P : ℕ) → Within n v A m x → Within n v (A * P) (m + r) (x * P + r * (A * P))
released-both n v A m x r P w = record { above = omega (arith, mul-le-mul_right P w.above); below = omega (arith, mul-le-mul_right P w.below) }

-- from masses to concentrations, the first of which is rounded down
near_of : (n v D m x q r : ℕ) → 1 ≤ v → 1 ≤ D → q * v ≤ m → m < q * v + v → r * v ≡ x → Within n v D m x → Near D n q r
near_of n v D m x q r a b c d e w = record {
  above = le_of_mul-le-mul_right {m = q * D} {n = r + n * D} {k = v} (omega (arith, mul-le-mul_right D c, w.above)) a;
  below = lt_of_mul-lt-mul_right v {m = r} {n = q * D + (n * D + D)} (omega (arith, mul-le-mul_right D d, w.below));
}

-- m/v and x/(D·v), as fractions
pub as-fractions : {n v D m x : ℕ} → 1 ≤ v → Closer n v D m x → (m * (D * v) < x * v + n * (v * (D * v))) × (x * v < m * (D * v) + n * (v * (D * v)))
as-fractions {v = v} a k = (omega (arith, mul-lt-mul_of_pos_right {k = v} k.above a), omega (arith, mul-lt-mul_of_pos_right {k = v} k.below a))

-- One step of both fields. In the second no concentration is rounded.
module _ (M : Mesh) (fluxes : List ℤ) (m o x p : List ℕ) (ok : Sound (rounded_input M m fluxes o)) (sound : Sound (rounded_input M x fluxes p))
    (D n : ℕ) (some : 1 ≤ D) (outside-in-parts : (f : ℕ) → get_or p f 0 ≡ get_or o f 0 * D)
    (whole : (c : ℕ) → c < M.cells → concentration (rounded_input M x fluxes p) c * volume M c ≡ get_or x c 0)
    (within : (c : ℕ) → c < M.cells → Within n (volume M c) D (get_or m c 0) (get_or x c 0)) where
  abbrev coarse : StepInput
  coarse = rounded_input M m fluxes o

  abbrev fine : StepInput
  fine = rounded_input M x fluxes p

  near : (c : ℕ) → c < M.cells → Near D n (concentration coarse c) (concentration fine c)
  near c h = near_of n (volume M c) D (mass coarse c) (mass fine c) (concentration coarse c) (concentration fine c)
      (ok.roomy c h) some (omega (arith, ok.salt_there c h)) (omega (arith, ok.rest_below c h)) (whole c h) (within c h)

  pub step-closer : (c : ℕ) → c < M.cells → Closer (suc n) (volume M c) D (low coarse c) (low fine c)
  step-closer c h =
      let s = mean-step M fluxes m o x p ok sound D n some outside-in-parts near c h (whole c h) in
      record { above = s.0; below = s.1 }
