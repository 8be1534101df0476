-- The limiter: what the limited corrections bring into a cell it may gain, and what they take from it it may lose. Before it, the
-- corrections that are kept.
use Prim.Native.Nat.{ℕ, ◌+◌, ◌*◌, ◌/◌, ◌≤◌, min}
use mathlib.Core.Path.{◌≡◌, refl, ap, ◌∙◌}
use mathlib.Core.Bool.{Bool, true, false, cond}
use native.Mathlib.Nat.{div-mul-le_self, le_of_mul-le-mul_right, add-zero, zero-add, zero-mul, zero-div, le_trans}
use native.Mathlib.Omega.{arith}
use lib.Dec.{eqb, leb}
use lib.IntN.{ℤ, pos, negsuc}
use Rattle.lists.specs.Fold.{sum}
use Rattle.signed.specs.Sign.{forward, backward, size, is_negative, with_sign}
use Rattle.model.specs.Mesh.{Mesh, first, second, entering, leaving, incoming, outgoing}
use Rattle.model.specs.Step.{portion, receiver, giver, smooths, kept_by, limited_by}
use Rattle.lists.proofs.Tests.{Same, same, same?, Fits, fits, exceeds, fits?}
use Rattle.lists.proofs.Sums.{sum_mono, sum-scale}
use Rattle.signed.proofs.Laws.{forward-neg, backward-neg}

-- the portions of all come to no more than there is
pub portions : (n : ℕ) (a : ℕ → ℕ) (g : ℕ) → sum n (λ f. portion (a f) g (sum n a)) ≤ g
unfolding portion
portions n a g = go (leb (sum n a) g) (fits? (sum n a) g)
  where
    go : (b : Bool) → Fits (sum n a) g b → sum n (λ f. cond b (a f) (a f * g / sum n a)) ≤ g
    go true (fits h) = h
    go false (exceeds h) = le_of_mul-le-mul_right {k = sum n a}
        (omega (
          arith,
          sum-scale n (sum n a) (λ f. a f * g / sum n a),
          sum-scale n g a,
          sum_mono n (λ f. a f * g / sum n a * sum n a) (λ f. a f * g) (λ f l. div-mul-le_self (a f * g) (sum n a)),
        ))
        (omega arith)

pub portion-zero : (g p : ℕ) → portion 0 g p ≡ 0
unfolding portion
portion-zero g p = go (leb p g)
  where
    go : (b : Bool) → cond b 0 (0 * g / p) ≡ 0
    go true = refl
    go false = ap (λ (x : ℕ). x / p) (zero-mul g) ∙ zero-div p

-- through a face from l to k whose correction z is cut to w
brought : (z : ℤ) (w k l c : ℕ) (G P : ℕ → ℕ) → w ≤ portion (size z) (G (cond (is_negative z) l k)) (P (cond (is_negative z) l k))
    → cond (eqb k c) (forward (with_sign (is_negative z) w)) 0 + cond (eqb l c) (backward (with_sign (is_negative z) w)) 0
    ≤ portion (cond (eqb k c) (forward z) 0 + cond (eqb l c) (backward z) 0) (G c) (P c)
brought z w k l c G P h = go z h (eqb k c) (same? k c) (eqb l c) (same? l c)
  where
    go : (z : ℤ) → w ≤ portion (size z) (G (cond (is_negative z) l k)) (P (cond (is_negative z) l k)) → (s : Bool) → Same k c s → (t : Bool) → Same l c t
        → cond s (forward (with_sign (is_negative z) w)) 0 + cond t (backward (with_sign (is_negative z) w)) 0
        ≤ portion (cond s (forward z) 0 + cond t (backward z) 0) (G c) (P c)
    go (pos n) h true (same e) true tt = simp (add-zero, ← e) h
    go (pos n) h true (same e) false tt = simp (add-zero, ← e) h
    go (pos n) h false ss true tt = omega arith
    go (pos n) h false ss false tt = omega arith
    go (negsuc n) h true ss true (same e) = simp (forward-neg, backward-neg, zero-add, ← e) h
    go (negsuc n) h false ss true (same e) = simp (backward-neg, zero-add, ← e) h
    go (negsuc n) h true ss false tt = simp (forward-neg) (omega arith)
    go (negsuc n) h false ss false tt = omega arith

-- for any corrections x, and whatever cells may gain and lose
module _ (M : Mesh) (gain loss : ℕ → ℕ) (x : ℕ → ℤ) where
  -- the size that a correction is cut to
  cut : ℕ → ℕ
  cut f = min (portion (size (x f)) (gain (receiver M x f)) (incoming M x (receiver M x f)))
      (portion (size (x f)) (loss (giver M x f)) (outgoing M x (giver M x f)))

  gain-limited : (c f : ℕ) → entering M (limited_by M gain loss x) c f ≤ portion (entering M x c f) (gain c) (incoming M x c)
  unfolding entering limited_by receiver cut
  gain-limited c f = brought (x f) (cut f) (second M f) (first M f) c gain (incoming M x) (omega arith)

  loss-limited : (c f : ℕ) → leaving M (limited_by M gain loss x) c f ≤ portion (leaving M x c f) (loss c) (outgoing M x c)
  unfolding leaving limited_by giver cut
  loss-limited c f = brought (x f) (cut f) (first M f) (second M f) c loss (outgoing M x) (omega arith)

  pub incoming-limited : (c : ℕ) → incoming M (limited_by M gain loss x) c ≤ gain c
  unfolding incoming
  incoming-limited c = le_trans
      (sum_mono M.faces (entering M (limited_by M gain loss x) c) (λ f. portion (entering M x c f) (gain c) (incoming M x c)) (λ f l. gain-limited c f))
      (portions M.faces (entering M x c) (gain c))

  pub outgoing-limited : (c : ℕ) → outgoing M (limited_by M gain loss x) c ≤ loss c
  unfolding outgoing
  outgoing-limited c = le_trans
      (sum_mono M.faces (leaving M (limited_by M gain loss x) c) (λ f. portion (leaving M x c f) (loss c) (outgoing M x c)) (λ f l. loss-limited c f))
      (portions M.faces (leaving M x c) (loss c))

  -- a correction of 0 stays 0
  pub limited-zero : (f : ℕ) → x f ≡ pos 0 → limited_by M gain loss x f ≡ pos 0
  unfolding limited_by
  limited-zero f e = simp (e, portion-zero)

-- what is kept of a correction is the correction or 0: what holds of both holds of it
pub kept_either : (P : ℤ → Type 0) (M : Mesh) (q : ℕ → ℕ) (x : ℕ → ℤ) (f : ℕ) → P (x f) → P (pos 0) → P (kept_by M q x f)
unfolding kept_by
kept_either P M q x f p z = go (smooths (q (giver M x f)) (q (receiver M x f)))
  where
    go : (b : Bool) → P (cond b (pos 0) (x f))
    go true = z
    go false = p

pub kept-zero : (M : Mesh) (q : ℕ → ℕ) (x : ℕ → ℤ) (f : ℕ) → x f ≡ pos 0 → kept_by M q x f ≡ pos 0
kept-zero M q x f e = kept_either (λ z. z ≡ pos 0) M q x f e refl
