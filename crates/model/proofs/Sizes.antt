-- How large the numbers of an accepted step get: what the code's words have to hold.
use Prim.Native.Nat.{ℕ, ◌+◌, ◌-◌, ◌*◌, ◌/◌, ◌≤◌, ◌<◌}
use mathlib.Core.Bool.{Bool, true, false, cond, ◌||◌}
use native.Mathlib.Nat.{mul-le-mul, mul-le-mul_left, mul-le-mul_right, div-le_of_le-mul, le_trans}
use native.Mathlib.Omega.{arith}
use lib.Dec.{eqb, leb}
use lib.IntN.{ℤ, pos, ◌-ℤ◌, ◌*ℤ◌}
use lib.Signed.{quot_z}
use Rattle.signed.specs.Sign.{forward, backward, size, is_zero, is_negative}
use Rattle.signed.proofs.Laws.{size-mul, size-add, size-quot, size-diff, size-with_sign, forward-le, backward-le}
use Rattle.signed.proofs.Turns.{size-turn}
use Rattle.lists.proofs.Tests.{Same, other, same?, Fits, exceeds, fits?}
use Rattle.lists.proofs.Sums.{sum_bound}
use Rattle.model.specs.Mesh.{Mesh, first, second, share, reach, at_rim, rim, entering, incoming, outgoing, total, max_cells, max_faces, max_concentration}
use Rattle.model.specs.Step.{StepInput, portion, receiver, limited_by, flux, outside, mass, concentration, beyond, upwind, downwind, upwind_share, carried, low, correction, low_concentration, kept, max_gain, max_loss, limited, moved, next, in_mass, out_mass}
use Rattle.model.proofs.Turned.{opposite, outgoing-turned}
use Rattle.model.proofs.Low.{low-bounds}
use Rattle.model.proofs.Limit.{kept_either}
use Rattle.model.proofs.Next.{next-bounds}
use Rattle.model.specs.Accepted.{max_carried, max_mass}
use Rattle.model.specs.Accepted.{Ready}
use Rattle.model.proofs.Accepted.{hi-most, flux-few, flux-reach}

quotient : (u d w K B : ℕ) → d ≤ B → w ≤ 256 * K → u * d * w / (256 * K) ≤ u * B
quotient u d w K B h k = div-le_of_le-mul (256 * K) (le_trans (mul-le-mul_left (u * d) k) (omega (arith, mul-le-mul_left (256 * K * u) h)))

quot-size : (z d w : ℤ) (K B : ℕ) → size d ≤ B → size w ≤ 256 * K → size (quot_z (z *ℤ d *ℤ w) (pos (256 * K))) ≤ size z * B
quot-size z d w K B h k = rw (size-quot (z *ℤ d *ℤ w) (256 * K), size-mul (z *ℤ d) w, size-mul z d) (quotient (size z) (size d) (size w) K B h k)

-- of any amounts through a face at most their size enters or leaves at a cell, twice where both ends are the cell
either : (s t : Bool) (a b n : ℕ) → a ≤ n → b ≤ n → cond s a 0 + cond t b 0 ≤ n + n
either true true a b n h k = omega arith
either true false a b n h k = omega arith
either false true a b n h k = omega arith
either false false a b n h k = omega arith

module _ (M : Mesh) (x : ℕ → ℤ) (B : ℕ) (few : M.faces ≤ max_faces) (small : (f : ℕ) → f < M.faces → size (x f) ≤ B) (c : ℕ) where
  pub incoming-most : incoming M x c ≤ max_faces * (B + B)
  unfolding incoming entering
  incoming-most = le_trans
      (sum_bound M.faces (B + B) (entering M x c)
      (λ f l. either (eqb (second M f) c) (eqb (first M f) c) (forward (x f)) (backward (x f)) B (le_trans (forward-le (x f)) (small f l))
      (le_trans (backward-le (x f)) (small f l))))
      (mul-le-mul_right (B + B) few)

module _ (M : Mesh) (x : ℕ → ℤ) (B : ℕ) (few : M.faces ≤ max_faces) (small : (f : ℕ) → f < M.faces → size (x f) ≤ B) (c : ℕ) where
  pub outgoing-most : outgoing M x c ≤ max_faces * (B + B)
  outgoing-most = rw (outgoing-turned M x c) (incoming-most M (opposite x) B few (λ f l. rw (size-turn true (x f)) (small f l)) c)

pub portion-le : (a g p : ℕ) → portion a g p ≤ a
unfolding portion
portion-le a g p = go (leb p g) (fits? p g)
  where
    go : (b : Bool) → Fits p g b → cond b a (a * g / p) ≤ a
    go true h = omega arith
    go false (exceeds h) = let l : g ≤ p = omega arith in div-le_of_le-mul p (omega (arith, mul-le-mul_left a l))

module _ (S : StepInput) (r : Ready S) where
  open S use {mesh as M}

  pub beyond_most : (f : ℕ) → f < M.faces → beyond S f ≤ max_concentration
  unfolding beyond
  beyond_most f h = go (at_rim M f) (same? (second M f) rim)
    where
      go : (b : Bool) → Same (second M f) rim b → cond b (outside S f) (concentration S (second M f)) ≤ max_concentration
      go true s = r.water.outside_most f h
      go false (other d) = r.salt_most (second M f) (r.fit.second_in f h d)

  first_most : (f : ℕ) → f < M.faces → concentration S (first M f) ≤ max_concentration
  first_most f h = r.salt_most (first M f) (r.fit.first-in f h)

  pub upwind-most : (f : ℕ) → f < M.faces → upwind S f ≤ max_concentration
  unfolding upwind
  upwind-most f h = go (is_negative (flux S f))
    where
      go : (b : Bool) → cond b (beyond S f) (concentration S (first M f)) ≤ max_concentration
      go true = beyond_most f h
      go false = first_most f h

  pub downwind-most : (f : ℕ) → f < M.faces → downwind S f ≤ max_concentration
  unfolding downwind
  downwind-most f h = go (is_negative (flux S f))
    where
      go : (b : Bool) → cond b (concentration S (first M f)) (beyond S f) ≤ max_concentration
      go true = first_most f h
      go false = beyond_most f h

  pub carried-size : (f : ℕ) → f < M.faces → size (carried S f) ≤ max_carried
  unfolding carried
  carried-size f h = rw (size-mul (flux S f) (pos (upwind S f))) (mul-le-mul (flux-few S r f h) (upwind-most f h))

  share-le : (f : ℕ) → f < M.faces → upwind_share S f ≤ 256
  unfolding upwind_share
  share-le f h = go (is_negative (flux S f))
    where
      go : (b : Bool) → cond b (256 - share M f) (share M f) ≤ 256
      go true = omega arith
      go false = omega (arith, r.fit.share_most f h)

  pub correction-size : (f : ℕ) → f < M.faces → size (correction S f) ≤ max_carried
  unfolding correction
  correction-size f h = go (at_rim M f) (same? (second M f) rim) (is_zero (flux S f))
    where
      go : (b : Bool) → Same (second M f) rim b → (z : Bool)
          → size (cond (b || z) (pos 0) (quot_z (flux S f *ℤ (pos (downwind S f) -ℤ pos (upwind S f)) *ℤ
          (pos (upwind_share S f * reach M f) -ℤ pos (128 * size (flux S f)))) (pos (256 * reach M f)))) ≤ max_carried
      go true s z = omega arith
      go false s true = omega arith
      go false (other d) false = le_trans
          (quot-size (flux S f) (pos (downwind S f) -ℤ pos (upwind S f)) (pos (upwind_share S f * reach M f) -ℤ pos (128 * size (flux S f))) (reach M f)
          max_concentration
          (size-diff (downwind S f) (upwind S f) max_concentration (downwind-most f h) (upwind-most f h))
          (size-diff (upwind_share S f * reach M f) (128 * size (flux S f)) (256 * reach M f) (mul-le-mul_right (reach M f) (share-le f h))
          (omega (arith, flux-reach S r f h d))))
          (mul-le-mul_right max_concentration (flux-few S r f h))

  pub kept-size : (f : ℕ) → f < M.faces → size (kept S f) ≤ max_carried
  unfolding kept
  kept-size f h = kept_either (λ z. size z ≤ max_carried) M (low_concentration S) (correction S) f (correction-size f h) (omega arith)

  -- the limiter lessens, so a moved mass is at most twice what the water may carry
  limited-size : (f : ℕ) → f < M.faces → size (limited S f) ≤ max_carried
  unfolding limited limited_by
  limited-size f h = rw (size-with_sign (is_negative (kept S f)) _) (omega (
    arith,
    portion-le (size (kept S f)) (max_gain S (receiver M (kept S) f)) (incoming M (kept S) (receiver M (kept S) f)),
    kept-size f h,
  ))

  pub moved-size : (f : ℕ) → f < M.faces → size (moved S f) ≤ max_carried + max_carried
  unfolding moved
  moved-size f h = omega (arith, size-add (carried S f) (limited S f), carried-size f h, limited-size f h)

  pub low-most : (c : ℕ) → c < M.cells → low S c ≤ max_mass
  low-most c h = omega (arith, (low-bounds S r.sound c h).1, r.fit.volume_most c h, mul-le-mul (r.fit.volume_most c h) (hi-most S r c h))

  pub next_most : (c : ℕ) → c < M.cells → next S c ≤ max_mass
  next_most c h = omega (arith, (next-bounds S r.sound c h).1, r.fit.volume_most c h, mul-le-mul (r.fit.volume_most c h) (hi-most S r c h))

  pub gain_most : (c : ℕ) → c < M.cells → max_gain S c ≤ max_mass
  unfolding max_gain
  gain_most c h = omega (arith, r.fit.volume_most c h, mul-le-mul (r.fit.volume_most c h) (hi-most S r c h))

  pub loss_most : (c : ℕ) → c < M.cells → max_loss S c ≤ max_mass
  unfolding max_loss
  loss_most c h = omega (arith, low-most c h)

  pub mass-most : (c : ℕ) → c < M.cells → mass S c ≤ max_mass
  mass-most c h = omega (arith, r.sound.rest_below c h, r.fit.volume_most c h, mul-le-mul (r.fit.volume_most c h) (r.salt_most c h))

  -- one rim face's part of the in-mass and of the out-mass, and all of them
  entered-most : (f : ℕ) → f < M.faces → cond (at_rim M f) (backward (flux S f) * outside S f) 0 ≤ max_carried
  entered-most f h = go (at_rim M f)
    where
      go : (b : Bool) → cond b (backward (flux S f) * outside S f) 0 ≤ max_carried
      go true = mul-le-mul (le_trans (backward-le (flux S f)) (flux-few S r f h)) (r.water.outside_most f h)
      go false = omega arith

  gone-most : (f : ℕ) → f < M.faces → cond (at_rim M f) (forward (flux S f) * concentration S (first M f)) 0 ≤ max_carried
  gone-most f h = go (at_rim M f)
    where
      go : (b : Bool) → cond b (forward (flux S f) * concentration S (first M f)) 0 ≤ max_carried
      go true = mul-le-mul (le_trans (forward-le (flux S f)) (flux-few S r f h)) (first_most f h)
      go false = omega arith

  pub in_mass-most : in_mass S ≤ max_faces * max_carried
  unfolding in_mass
  in_mass-most = le_trans (sum_bound M.faces max_carried (λ f. cond (at_rim M f) (backward (flux S f) * outside S f) 0) entered-most)
      (mul-le-mul_right max_carried r.counts_fit.few_faces)

  pub out_mass-most : out_mass S ≤ max_faces * max_carried
  unfolding out_mass
  out_mass-most = le_trans (sum_bound M.faces max_carried
      (λ f. cond (at_rim M f) (forward (flux S f) * concentration S (first M f)) 0) gone-most) (mul-le-mul_right max_carried r.counts_fit.few_faces)

-- a total of a field whose concentrations are within the ceiling
pub total_most : (M : Mesh) (m : ℕ → ℕ) → M.cells ≤ max_cells → ((c : ℕ) → c < M.cells → m c ≤ max_mass) → total M m ≤ max_cells * max_mass
unfolding total
total_most M m few most = le_trans (sum_bound M.cells max_mass m most) (mul-le-mul_right max_mass few)
