-- A correction by the product of its signed factors, and in one number.
use Prim.Native.Nat.{ℕ, suc, ◌+◌, ◌-◌, ◌*◌, ◌/◌, ◌%◌, ◌≤◌, ◌<◌}
use mathlib.Core.Path.{◌≡◌, sym, ap, ◌∙◌}
use mathlib.Core.Bool.{Bool, true, false, cond}
use native.Mathlib.Nat.{zero-mul, zero-div, add-zero, mul_comm, mul-le-mul, mul-le-mul_left, mul-le-mul_right, div-le_of_le-mul, le_trans}
use native.Mathlib.Omega.{arith}
use borrow.Author.Tests.{lt-ltb}
use lib.IntN.{ℤ, pos, negsuc, neg_ℤ, ◌-ℤ◌, ◌*ℤ◌, neg_ℤ-+ℤ}
use Rattle.signed.specs.Sign.{size, is_negative, with_sign}
use Rattle.signed.proofs.Laws.{size-zero, size-mul, size-quot, size-diff, mul-with_sign, diff-with_sign, quot_is}
use Rattle.signed.proofs.Turns.{mul-turned, both-turned, difference-turned}
use Rattle.model.specs.Accepted.{max_carried}
use Rattle.model.specs.Mesh.{max_concentration, max_share, max_reach}
use Rattle.step_face.specs.Correction.{over_sign, decoded, product_of, correction_of}

-- of any share
pub share-le : (p : Bool) (s : ℕ) → s ≤ max_share → cond p (256 - s) s ≤ 256
share-le true s h = omega arith
share-le false s h = omega arith

-- t with the sign of the flux
pub share-is : (p : Bool) (s : ℕ) → s ≤ max_share → pos s -ℤ pos (cond p 256 0) ≡ with_sign p (cond p (256 - s) s)
share-is false s h = ap pos (add-zero s)
share-is true s h =
    let l : s < 256 = omega arith in
    let e : (s - 256) + (256 - s) ≡ 256 - s = omega arith in
    rw (diff-with_sign s 256, lt-ltb s 256 l, e)

-- a flux below 0 turns both the order of the cells and the way: the product is the same
turned : (z d r : ℤ) → z *ℤ neg_ℤ d *ℤ neg_ℤ r ≡ z *ℤ d *ℤ r
turned z d r = ap (λ (x : ℤ). x *ℤ neg_ℤ r) (mul-turned z d) ∙ both-turned (z *ℤ d) r

way-turned : (t k n : ℕ) → with_sign true t *ℤ pos k -ℤ negsuc n *ℤ pos 128 ≡ neg_ℤ (pos (t * k) -ℤ pos (128 * suc n))
way-turned t k n =
    ap (λ (x : ℤ). x -ℤ negsuc n *ℤ pos 128) (mul-with_sign true false t k)
    ∙ ap (λ (h : ℕ). neg_ℤ (pos (t * k)) -ℤ neg_ℤ (pos h)) (mul_comm (suc n) 128)
    ∙ sym (neg_ℤ-+ℤ (pos (t * k)) (neg_ℤ (pos (128 * suc n))))

-- the product as the code finds it, with no size asked
pub product_is : (z : ℤ) (a b s k : ℕ)
    → z *ℤ (pos b -ℤ pos a) *ℤ (with_sign (is_negative z) (cond (is_negative z) (256 - s) s) *ℤ pos k -ℤ z *ℤ pos 128) ≡ product_of z a b s k
product_is (pos n) a b s k = ap (λ (h : ℕ). pos n *ℤ (pos b -ℤ pos a) *ℤ (pos (s * k) -ℤ pos h)) (mul_comm n 128)
product_is (negsuc n) a b s k =
    ap (λ (x : ℤ). negsuc n *ℤ x *ℤ (with_sign true (256 - s) *ℤ pos k -ℤ negsuc n *ℤ pos 128)) (difference-turned (pos a) (pos b))
    ∙ ap (λ (x : ℤ). negsuc n *ℤ neg_ℤ (pos a -ℤ pos b) *ℤ x) (way-turned (256 - s) k n)
    ∙ turned (negsuc n) (pos a -ℤ pos b) (pos ((256 - s) * k) -ℤ pos (128 * suc n))

-- its size is at most that of the flux times the greatest difference, over the reach
either-le : (p : Bool) (a b m : ℕ) → a ≤ m → b ≤ m → cond p a b ≤ m
either-le true a b m h k = h
either-le false a b m h k = k

product-by-flux : (z : ℤ) (a b s k : ℕ) → size z ≤ k → a ≤ max_concentration → b ≤ max_concentration → s ≤ max_share
    → size (product_of z a b s k) ≤ 256 * k * (size z * max_concentration)
product-by-flux z a b s k h ha hb hs =
    let p : Bool = is_negative z in
    let d : size (pos (cond p a b) -ℤ pos (cond p b a)) ≤ max_concentration =
    size-diff (cond p a b) (cond p b a) max_concentration (either-le p a b max_concentration ha hb) (either-le p b a max_concentration hb ha) in
    let t : cond p (256 - s) s * k ≤ 256 * k = mul-le-mul_right k (share-le p s hs) in
    let w : size (pos (cond p (256 - s) s * k) -ℤ pos (128 * size z)) ≤ 256 * k = size-diff (cond p (256 - s) s * k) (128 * size z) (256 * k) t (omega arith) in
    rw (
      size-mul (z *ℤ (pos (cond p a b) -ℤ pos (cond p b a))) (pos (cond p (256 - s) s * k) -ℤ pos (128 * size z)),
      size-mul z (pos (cond p a b) -ℤ pos (cond p b a)),
    )
    (omega (arith, mul-le-mul (mul-le-mul_left (size z) d) w))

pub product-most : (z : ℤ) (a b s k : ℕ) → size z ≤ k → a ≤ max_concentration → b ≤ max_concentration → s ≤ max_share → k ≤ max_reach
    → size (product_of z a b s k) ≤ 256 * k * max_carried
product-most z a b s k h ha hb hs hk =
    le_trans (product-by-flux z a b s k h ha hb hs) (mul-le-mul_left (256 * k) (mul-le-mul_right max_concentration (le_trans h hk)))

pub correction-by-flux : (z : ℤ) (a b s k : ℕ) → size z ≤ k → a ≤ max_concentration → b ≤ max_concentration → s ≤ max_share
    → size (correction_of z a b s k) ≤ size z * max_concentration
unfolding correction_of
correction-by-flux z a b s k h ha hb hs =
    rw (size-quot (product_of z a b s k) (256 * k)) (div-le_of_le-mul (256 * k) (product-by-flux z a b s k h ha hb hs))

-- a correction by the sign and the size of the product
pub correction-is : (z : ℤ) (a b s k : ℕ)
    → correction_of z a b s k ≡ with_sign (is_negative (product_of z a b s k)) (size (product_of z a b s k) / (256 * k))
unfolding correction_of
correction-is z a b s k = quot_is (product_of z a b s k) (256 * k)

-- a size over its sign
pub decoded-even : (n : ℕ) → decoded (over_sign * n) ≡ pos n
decoded-even n =
    let a : (over_sign * n) % 2 ≡ 0 = omega arith in
    let b : (over_sign * n) / over_sign ≡ n = omega arith in
    rw (a, b)

pub decoded-odd : (n : ℕ) → decoded (over_sign * n + 1) ≡ with_sign true n
decoded-odd n =
    let a : (over_sign * n + 1) % 2 ≡ 1 = omega arith in
    let b : (over_sign * n + 1) / over_sign ≡ n = omega arith in
    rw (a, b)

-- no flux, no correction
none : (d w k : ℕ) → 0 * d * w / k ≡ 0
none d w k = ap (λ (n : ℕ). n * w / k) (zero-mul d) ∙ ap (λ (n : ℕ). n / k) (zero-mul w) ∙ zero-div k

no-correction : (a b s k : ℕ) → size (correction_of (pos 0) a b s k) ≡ 0
unfolding correction_of
no-correction a b s k =
    rw (
      size-quot (product_of (pos 0) a b s k) (256 * k),
      size-mul (pos 0 *ℤ (pos b -ℤ pos a)) (pos (s * k) -ℤ pos (128 * 0)),
      size-mul (pos 0) (pos b -ℤ pos a),
    ) (none (size (pos b -ℤ pos a)) (size (pos (s * k) -ℤ pos (128 * 0))) (256 * k))

pub correction_none : (z : ℤ) (a b s k : ℕ) → size z ≡ 0 → correction_of z a b s k ≡ pos 0
correction_none z a b s k e =
    let d : z ≡ pos 0 = size-zero z e in
    rw d (size-zero (correction_of (pos 0) a b s k) (no-correction a b s k))
