-- One step: the next masses keep within the bounds, and the budget of the step.
use Prim.Native.Nat.{ℕ, suc, ◌+◌, ◌-◌, ◌*◌, ◌/◌, ◌≤◌, ◌<◌}
use mathlib.Core.Path.{◌≡◌, refl, ◌∙◌}
use mathlib.Core.Bool.{Bool, true, false, cond, ◌||◌}
use native.Mathlib.Nat.{le-div_iff_mul-le, div-lt_iff_lt-mul, zero-mul}
use native.Mathlib.Omega.{arith}
use lib.Dec.{eqb}
use lib.IntN.{ℤ, pos, ◌+ℤ◌, ◌*ℤ◌, +ℤ_idr}
use Rattle.signed.specs.Sign.{forward, backward, is_zero}
use Rattle.model.specs.Mesh.{volume, first, second, at_rim, entering, leaving, incoming, outgoing, updated, total}
use Rattle.model.specs.Step.{StepInput, flux, outside, mass, concentration, beyond, upwind, carried, low, lo, hi, correction, low_concentration, kept, max_gain, max_loss, limited, moved, next, in_mass, out_mass}
use Rattle.lists.proofs.Sums.{sum-cong, sum-add}
use Rattle.signed.proofs.Laws.{moves, is_zero-size, size-mul, size-zero}
use Rattle.model.proofs.Budget.{outward, inward, budget}
use Rattle.model.proofs.Low.{low-affords, low-is, low-bounds, upwind-forward, upwind-backward}
use Rattle.model.proofs.Limit.{incoming-limited, outgoing-limited, limited-zero, kept-zero}
use Rattle.model.specs.Accepted.{Sound}

-- masses between V·lo and V·hi + V − 1, as concentrations
between : {v l h : ℕ} (m : ℕ) → 1 ≤ v → (v * l ≤ m) × (m ≤ v * h + v - 1) → (l ≤ m / v) × (m / v ≤ h)
between {v} {l} {h} m some b = ((le-div_iff_mul-le some).1 (omega arith), omega (arith, (div-lt_iff_lt-mul {x = m} {y = suc h} some).1 (omega arith)))

-- what two amounts move through a face, their sum moves
both : (s t : Bool) (x y : ℤ)
    → (cond s (forward (x +ℤ y)) 0 + cond t (backward (x +ℤ y)) 0) + (cond t (forward x) 0 + cond s (backward x) 0) +
    (cond t (forward y) 0 + cond s (backward y) 0)
    ≡ (cond t (forward (x +ℤ y)) 0 + cond s (backward (x +ℤ y)) 0) + (cond s (forward x) 0 + cond t (backward x) 0) +
    (cond s (forward y) 0 + cond t (backward y) 0)
both true true x y = omega (arith, moves x y)
both true false x y = omega (arith, moves x y)
both false true x y = omega (arith, moves x y)
both false false x y = omega arith

module _ (S : StepInput) where
  open S use {mesh as M}

  through : (c f : ℕ) → entering M (moved S) c f + leaving M (carried S) c f + leaving M (limited S) c f
      ≡ leaving M (moved S) c f + entering M (carried S) c f + entering M (limited S) c f
  unfolding entering leaving moved
  through c f = both (eqb (second M f) c) (eqb (first M f) c) (carried S f) (limited S f)

  pub exchange : (c : ℕ) → incoming M (moved S) c + outgoing M (carried S) c + outgoing M (limited S) c ≡ outgoing M (moved S) c + incoming M (carried S) c +
      incoming M (limited S) c
  unfolding incoming outgoing
  exchange c = omega (
    arith,
    sum-add M.faces (entering M (moved S) c) (leaving M (carried S) c),
    sum-add M.faces (λ f. entering M (moved S) c f + leaving M (carried S) c f) (leaving M (limited S) c),
    sum-add M.faces (leaving M (moved S) c) (entering M (carried S) c),
    sum-add M.faces (λ f. leaving M (moved S) c f + entering M (carried S) c f) (entering M (limited S) c),
    sum-cong M.faces (λ f. entering M (moved S) c f + leaving M (carried S) c f + leaving M (limited S) c f)
        (λ f. leaving M (moved S) c f + entering M (carried S) c f + entering M (limited S) c f) (λ f l. through c f),
  )

module _ (S : StepInput) where
  open S use {mesh as M}

  -- what the limited corrections bring into a cell it may gain, and what they take from it it may lose
  pub gained : (c : ℕ) → incoming M (limited S) c ≤ max_gain S c
  unfolding limited
  gained c = incoming-limited M (max_gain S) (max_loss S) (kept S) c

  pub lost : (c : ℕ) → outgoing M (limited S) c ≤ max_loss S c
  unfolding limited
  lost c = outgoing-limited M (max_gain S) (max_loss S) (kept S) c

module _ (S : StepInput) (ok : Sound S) where
  open S use {mesh as M}

  -- the differences of document 01 are not cut off
  pub max_gain-is : (c : ℕ) → c < M.cells → max_gain S c + low S c + 1 ≡ volume M c * hi S c + volume M c
  unfolding max_gain
  max_gain-is c h = omega (arith, low-bounds S ok c h, ok.roomy c h)

  pub max_loss-is : (c : ℕ) → c < M.cells → max_loss S c + volume M c * lo S c ≡ low S c
  unfolding max_loss
  max_loss-is c h = omega (arith, low-bounds S ok c h)

  -- a cell has the salt that is moved out of it
  pub affords : (c : ℕ) → c < M.cells → outgoing M (moved S) c ≤ mass S c + incoming M (moved S) c
  unfolding max_loss
  affords c h = omega (arith, exchange S c, low-is S ok c h, lost S c)

  pub next_is : (c : ℕ) → c < M.cells → next S c + outgoing M (limited S) c ≡ low S c + incoming M (limited S) c
  unfolding next updated
  next_is c h = omega (arith, exchange S c, low-is S ok c h, affords c h)

  pub next-bounds : (c : ℕ) → c < M.cells → (volume M c * lo S c ≤ next S c) × (next S c ≤ volume M c * hi S c + volume M c - 1)
  unfolding max_loss max_gain
  next-bounds c h = omega (arith, next_is c h, lost S c, gained S c, low-bounds S ok c h)

  pub next-concentration : (c : ℕ) → c < M.cells → (lo S c ≤ next S c / volume M c) × (next S c / volume M c ≤ hi S c)
  next-concentration c h = between (next S c) (ok.roomy c h) (next-bounds c h)

-- over the rim goes what the water carries, and no correction
module _ (S : StepInput) (f : ℕ) (e : at_rim S.mesh f ≡ true) where
  open S use {mesh as M}

  rim-correction : correction S f ≡ pos 0
  unfolding correction
  rim-correction = rw e

  rim-kept : kept S f ≡ pos 0
  unfolding kept
  rim-kept = kept-zero M (low_concentration S) (correction S) f rim-correction

  rim-limited : limited S f ≡ pos 0
  unfolding limited
  rim-limited = limited-zero M (max_gain S) (max_loss S) (kept S) f rim-kept

  rim-moved : moved S f ≡ carried S f
  unfolding moved
  rim-moved = rw rim-limited (+ℤ_idr (carried S f))

-- through a still face goes nothing: stage 1 says 0, and there is no correction
still-cond : (b : Bool) (x : ℤ) → cond (b || true) (pos 0) x ≡ pos 0
still-cond true x = refl
still-cond false x = refl

module _ (S : StepInput) (f : ℕ) (e : is_zero (flux S f) ≡ true) where
  open S use {mesh as M}

  pub still-carried : carried S f ≡ pos 0
  unfolding carried
  still-carried = size-zero (flux S f *ℤ pos (upwind S f)) (size-mul (flux S f) (pos (upwind S f)) ∙ rw (is_zero-size (flux S f) e) (zero-mul (upwind S f)))

  still-correction : correction S f ≡ pos 0
  unfolding correction
  still-correction = rw e (still-cond (at_rim M f) _)

  pub still-moved : moved S f ≡ pos 0
  unfolding moved kept limited
  still-moved =
      rw (still-carried, limited-zero M (max_gain S) (max_loss S) (kept S) f (kept-zero M (low_concentration S) (correction S) f still-correction))

at-rim-only : (b : Bool) (x y : ℕ) → (b ≡ true → x ≡ y) → cond b x 0 ≡ cond b y 0
at-rim-only true x y h = h refl
at-rim-only false x y h = refl

-- What the amounts of a step owe, whatever scheme gives them: the carried ones at the rim, no cell gives what it has not, and the bounds.
pub record Keeps (S : StepInput) (x : ℕ → ℤ) : Type 0 where
  pub at-rim : (f : ℕ) → f < S.mesh.faces → at_rim S.mesh f ≡ true → x f ≡ carried S f
  pub affords : (c : ℕ) → c < S.mesh.cells → outgoing S.mesh x c ≤ mass S c + incoming S.mesh x c
  pub bounds : (c : ℕ) → c < S.mesh.cells
      → (lo S c ≤ updated S.mesh (mass S) x c / volume S.mesh c) × (updated S.mesh (mass S) x c / volume S.mesh c ≤ hi S c)

-- then they bring in and take out the step's in- and out-mass, and nothing else is made or lost
module _ (S : StepInput) (x : ℕ → ℤ) (k : Keeps S x) where
  open S use {mesh as M}

  rim-out : (f : ℕ) → f < M.faces → at_rim M f ≡ true → forward (x f) ≡ forward (flux S f) * concentration S (first M f)
  unfolding carried upwind
  rim-out f l e = rw (k.at-rim f l e) (upwind-forward (flux S f) (beyond S f) (concentration S (first M f)))

  rim-in : (f : ℕ) → f < M.faces → at_rim M f ≡ true → backward (x f) ≡ backward (flux S f) * outside S f
  unfolding carried upwind beyond
  rim-in f l e = rw (k.at-rim f l e) (upwind-backward (flux S f) (beyond S f) (concentration S (first M f)) ∙ rw e)

  pub outward-is : outward M x ≡ out_mass S
  unfolding outward out_mass
  outward-is = sum-cong M.faces (λ f. cond (at_rim M f) (forward (x f)) 0) (λ f. cond (at_rim M f) (forward (flux S f) * concentration S (first M f)) 0)
      (λ f l. at-rim-only (at_rim M f) (forward (x f)) (forward (flux S f) * concentration S (first M f)) (rim-out f l))

  inward-is : inward M x ≡ in_mass S
  unfolding inward in_mass
  inward-is = sum-cong M.faces (λ f. cond (at_rim M f) (backward (x f)) 0) (λ f. cond (at_rim M f) (backward (flux S f) * outside S f) 0)
      (λ f l. at-rim-only (at_rim M f) (backward (x f)) (backward (flux S f) * outside S f) (rim-in f l))

  pub amounts-budget : Sound S → total M (updated M (mass S) x) + out_mass S ≡ total M (mass S) + in_mass S
  amounts-budget ok = omega (arith, budget M ok.joined x (mass S) k.affords, outward-is, inward-is)

-- the moved masses of the corrected step
pub moved_keeps : (S : StepInput) → Sound S → Keeps S (moved S)
unfolding next
moved_keeps S ok = record { at-rim = λ f l e. rim-moved S f e; affords = affords S ok; bounds = next-concentration S ok }

-- the carried masses, of a step that ends after stage 1
pub carried_keeps : (S : StepInput) → Sound S → Keeps S (carried S)
unfolding low
carried_keeps S ok = record {
  at-rim = λ f l e. refl;
  affords = λ c h. omega (arith, low-affords S ok c h);
  bounds = λ c h. between (low S c) (ok.roomy c h) (low-bounds S ok c h);
}
