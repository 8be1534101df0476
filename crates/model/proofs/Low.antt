-- The low-order masses keep within the bounds.
use Prim.Native.Nat.{ℕ, zero, suc, ◌+◌, ◌-◌, ◌*◌, ◌≤◌, ◌<◌}
use mathlib.Core.Path.{◌≡◌, refl, sym, ◌∙◌}
use mathlib.Core.Logic.{◌≢◌}
use mathlib.Core.Bool.{Bool, true, false, cond}
use native.Mathlib.Nat.{mul-le-mul_left, mul-le-mul_right, add-sub_of_le}
use native.Mathlib.Omega.{arith}
use lib.Dec.{eqb}
use lib.IntN.{ℤ, pos, negsuc, ◌*ℤ◌}
use Rattle.signed.specs.Sign.{forward, backward, is_zero, is_negative}
use Rattle.model.specs.Mesh.{volume, first, second, at_rim, rim, entering, leaving, incoming, outgoing, updated}
use Rattle.model.specs.Step.{StepInput, flux, outside, mass, concentration, beyond, upwind, carried, low, adjacent, lo, hi}
use Rattle.lists.proofs.Tests.{Same, same, other, same?}
use Rattle.lists.proofs.Sums.{sum-cong, sum_mono, sum-scale, least_start, least-each, greatest-start, greatest-each}
use Rattle.signed.proofs.Laws.{forward-scale, backward-scale}
use Rattle.model.specs.Accepted.{Sound}

pub upwind-forward : (z : ℤ) (u v : ℕ) → forward (z *ℤ pos (cond (is_negative z) u v)) ≡ forward z * v
upwind-forward (pos n) u v = refl
upwind-forward (negsuc n) u v = forward-scale (negsuc n) u ∙ omega arith

pub upwind-backward : (z : ℤ) (u v : ℕ) → backward (z *ℤ pos (cond (is_negative z) u v)) ≡ backward z * u
upwind-backward (pos n) u v = omega arith
upwind-backward (negsuc n) u v = backward-scale (negsuc n) u

-- what leaves a cell leaves at its own concentration
leaves : (z : ℤ) (k l c o : ℕ) (q : ℕ → ℕ) → c ≢ rim
    → cond (eqb l c) (forward z * q l) 0 + cond (eqb k c) (backward z * cond (eqb k rim) o (q k)) 0
    ≡ (cond (eqb l c) (forward z) 0 + cond (eqb k c) (backward z) 0) * q c
leaves z k l c o q n = go (eqb l c) (same? l c) (eqb k c) (same? k c) (eqb k rim) (same? k rim)
  where
    go : (s : Bool) → Same l c s → (t : Bool) → Same k c t → (r : Bool) → Same k rim r
        → cond s (forward z * q l) 0 + cond t (backward z * cond r o (q k)) 0 ≡ (cond s (forward z) 0 + cond t (backward z) 0) * q c
    go false (other d) false (other e) r rr = omega arith
    go true (same d) false (other e) r rr = rw d (omega arith)
    go s ss true (same e) true (same rr) = absurd (n (sym e ∙ rr))
    go false (other d) true (same e) false rr = rw e (omega arith)
    go true (same d) true (same e) false rr = rw (d, e) (omega arith)

-- what enters a cell through a face enters at what the face shows it
enters : (z : ℤ) (k l c o : ℕ) (q : ℕ → ℕ) → c ≢ rim
    → cond (eqb k c) (forward z * q l) 0 + cond (eqb l c) (backward z * cond (eqb k rim) o (q k)) 0
    ≡ (cond (eqb k c) (forward z) 0 + cond (eqb l c) (backward z) 0)
    * cond (is_zero z) (q c) (cond (eqb l c) (cond (eqb k rim) (cond (is_negative z) o (q c)) (q k)) (cond (eqb k c) (q l) (q c)))
enters z k l c o q n = go z (eqb l c) (same? l c) (eqb k c) (same? k c) (eqb k rim) (same? k rim)
  where
    go : (z : ℤ) (s : Bool) → Same l c s → (t : Bool) → Same k c t → (r : Bool) → Same k rim r
        → cond t (forward z * q l) 0 + cond s (backward z * cond r o (q k)) 0
        ≡ (cond t (forward z) 0 + cond s (backward z) 0) * cond (is_zero z) (q c) (cond s (cond r (cond (is_negative z) o (q c)) (q k)) (cond t (q l) (q c)))
    go z false ss false tt r rr = omega arith
    go z s ss true (same e) true (same d) = absurd (n (sym e ∙ d))
    go (pos zero) false ss true tt false rr = omega arith
    go (pos (suc m)) false ss true tt false rr = omega arith
    go (negsuc m) false ss true tt false rr = omega arith
    go (pos zero) true ss false tt r rr = omega arith
    go (pos (suc m)) true ss false tt r rr = omega arith
    go (negsuc m) true ss false tt r rr = omega arith
    go (pos zero) true ss true tt false rr = omega arith
    go (pos (suc m)) true (same d) true (same e) false rr = rw (d, e) (omega arith)
    go (negsuc m) true (same d) true (same e) false rr = rw (d, e) (omega arith)

-- a cell of volume O + D that loses O at its own concentration q and gains G between O at lo and O at hi
mixed : (O D q m G lo hi low : ℕ) → lo ≤ q → q ≤ hi → (O + D) * q ≤ m → m < (O + D) * q + (O + D) → O * lo ≤ G → G ≤ O * hi → low + O * q ≡ m + G
    → ((O + D) * lo ≤ low) × (low ≤ (O + D) * hi + (O + D) - 1)
mixed O D q m G lo hi low a b c d e f g = omega (arith, mul-le-mul_left D a, mul-le-mul_left D b)

-- what holds of q in a cell, in the first cell of a face, of what flows in there and of q beyond it, holds of what the cell meets at the face
pub met-any : (P : ℕ → Type 0) (S : StepInput) (c f : ℕ) → P (concentration S c) → P (concentration S (first S.mesh f))
    → (second S.mesh f ≡ rim → is_negative (flux S f) ≡ true → P (outside S f))
    → (second S.mesh f ≢ rim → P (concentration S (second S.mesh f))) → P (adjacent S c f)
unfolding adjacent
met-any P S c f own near inflow across = go (is_zero (flux S f)) (eqb (first S.mesh f) c)
    (at_rim S.mesh f) (same? (second S.mesh f) rim) (is_negative (flux S f)) refl (eqb (second S.mesh f) c)
  where
    go : (a s r : Bool) → Same (second S.mesh f) rim r → (n : Bool) → is_negative (flux S f) ≡ n → (t : Bool)
        → P (cond a (concentration S c) (cond s (cond r (cond n (outside S f) (concentration S c)) (concentration S (second S.mesh f)))
        (cond t (concentration S (first S.mesh f)) (concentration S c))))
    go true s r rr n e t = own
    go false true true (same d) true e t = inflow d e
    go false true true rr false e t = own
    go false true false (other d) n e t = across d
    go false false r rr n e true = near
    go false false r rr n e false = own

module _ (S : StepInput) where
  open S use {mesh as M}

  pub entering-carried : (c f : ℕ) → c ≢ rim → entering M (carried S) c f ≡ entering M (flux S) c f * adjacent S c f
  unfolding entering carried upwind beyond adjacent
  entering-carried c f n = rw (upwind-forward, upwind-backward) (enters (flux S f) (second M f) (first M f) c (outside S f) (concentration S) n)

  leaving-carried : (c f : ℕ) → c ≢ rim → leaving M (carried S) c f ≡ leaving M (flux S) c f * concentration S c
  unfolding leaving carried upwind beyond
  leaving-carried c f n = rw (upwind-forward, upwind-backward) (leaves (flux S f) (second M f) (first M f) c (outside S f) (concentration S) n)

module _ (S : StepInput) (ok : Sound S) where
  open S use {mesh as M}

  not-rim : (c : ℕ) → c < M.cells → c ≢ rim
  not-rim c h = omega (arith, ok.joined.few)

  pub outgoing-carried : (c : ℕ) → c < M.cells → outgoing M (carried S) c ≡ outgoing M (flux S) c * concentration S c
  unfolding outgoing
  outgoing-carried c h = sum-cong M.faces (leaving M (carried S) c) (λ f. leaving M (flux S) c f * concentration S c)
      (λ f l. leaving-carried S c f (not-rim c h))
      ∙ sum-scale M.faces (concentration S c) (leaving M (flux S) c)

  incoming-lo : (c : ℕ) → c < M.cells → incoming M (flux S) c * lo S c ≤ incoming M (carried S) c
  unfolding incoming lo
  incoming-lo c h = omega (
    arith,
    sum-scale M.faces (lo S c) (entering M (flux S) c),
    sum_mono M.faces (λ f. entering M (flux S) c f * lo S c) (entering M (carried S) c)
        (λ f l. rw (entering-carried S c f (not-rim c h)) (mul-le-mul_left (entering M (flux S) c f)
        (least-each M.faces (concentration S c) (adjacent S c) f l))),
  )

  incoming-hi : (c : ℕ) → c < M.cells → incoming M (carried S) c ≤ incoming M (flux S) c * hi S c
  unfolding incoming hi
  incoming-hi c h = omega (
    arith,
    sum-scale M.faces (hi S c) (entering M (flux S) c),
    sum_mono M.faces (entering M (carried S) c) (λ f. entering M (flux S) c f * hi S c)
        (λ f l. rw (entering-carried S c f (not-rim c h)) (mul-le-mul_left (entering M (flux S) c f)
        (greatest-each M.faces (concentration S c) (adjacent S c) f l))),
  )

  -- a cell has the salt that the water takes from it
  pub low-affords : (c : ℕ) → c < M.cells → outgoing M (carried S) c ≤ mass S c
  low-affords c h = rw (outgoing-carried c h) (omega (arith, mul-le-mul_right (concentration S c) (ok.courant c h), ok.salt_there c h))

  pub low-is : (c : ℕ) → c < M.cells → low S c + outgoing M (carried S) c ≡ mass S c + incoming M (carried S) c
  unfolding low updated
  low-is c h = omega (arith, low-affords c h)

  pub low-bounds : (c : ℕ) → c < M.cells → (volume M c * lo S c ≤ low S c) × (low S c ≤ volume M c * hi S c + volume M c - 1)
  unfolding lo hi
  low-bounds c h = rw (add-sub_of_le (ok.courant c h)) at
      (mixed (outgoing M (flux S) c) (volume M c - outgoing M (flux S) c) (concentration S c) (mass S c) (incoming M (carried S) c) (lo S c) (hi S c) (low S c)
      (least_start M.faces (concentration S c) (adjacent S c)) (greatest-start M.faces (concentration S c) (adjacent S c))
      (rw (add-sub_of_le (ok.courant c h)) (ok.salt_there c h))
      (rw (add-sub_of_le (ok.courant c h)) (ok.rest_below c h))
      (rw (ok.level c h) at (incoming-lo c h))
      (rw (ok.level c h) at (incoming-hi c h))
      (rw (outgoing-carried c h) at (low-is c h)))
