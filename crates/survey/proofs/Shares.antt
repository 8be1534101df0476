-- The share of a ratio, 1 to 255: k of them are not above it, of 256, and k + 1 are.
use Prim.Native.Nat.{ℕ, zero, suc, ◌+◌, ◌*◌, ◌≤◌}
use mathlib.Core.Path.{◌≡◌, refl, sym, ap, ◌∙◌}
use mathlib.Core.Bool.{Bool, true, false, not, cond, ◌&&◌, true≢false}
use native.Mathlib.Nat.{mul-le-mul_right}
use native.Mathlib.Numerals.{add-one}
use native.Mathlib.Omega.{arith}
use borrow.Author.Tests.{not-true, leb-true, leb-false, le-leb}
use lib.Dec.{eqb, leb}
use lib.Ieee.{Float, nan, inf, fin, up, down, eq}
use Rattle.lists.proofs.Tests.{Same, same, other, same?}
use Rattle.lists.proofs.Tests.{both_true}
use Rattle.model.specs.Causes.{accepted, refused, Verdict}
use Rattle.survey_points.specs.Points.{ratio, first_side, second_side, plus, none}
use Rattle.survey.specs.Survey.{largest, not_above, share, share_of, ratio_is, nothing, found, found_after, share_found, face_share, share_by, coordinates_verdict}
use Rattle.survey_points.specs.declared.Face.{Face}
use Rattle.std.specs.Prelude.{Ok}

-- what holds of a number holds of those below it
abbrev Downward : (ℕ → Bool) → Type 0
Downward good = (i j : ℕ) → i ≤ j → good j ≡ true → good i ≡ true

largest-is : (good : ℕ → Bool) → Downward good → (n k : ℕ) → k ≤ n → good k ≡ true → good (suc k) ≡ false → largest good n ≡ k
unfolding largest
largest-is good down zero k h g b = omega arith
largest-is good down (suc n) k h g b = go (eqb k (suc n)) (same? k (suc n)) (λ l. largest-is good down n k l g b)
  where
    passed : (t : Bool) → good (suc n) ≡ t → k ≤ n → largest good n ≡ k → cond t (suc n) (largest good n) ≡ k
    passed true e l ih = absurd (true≢false (sym (down (suc k) (suc n) (omega arith) e) ∙ b))
    passed false e l ih = ih

    go : (t : Bool) → Same k (suc n) t → (k ≤ n → largest good n ≡ k) → cond (good (suc n)) (suc n) (largest good n) ≡ k
    go true (same e) ih = let q : good (suc n) ≡ true = rw e at g in rw q (sym e)
    go false (other d) ih = passed (good (suc n)) refl (omega arith) (ih (omega arith))

largest-good : (good : ℕ → Bool) (n : ℕ) → 1 ≤ n → good 1 ≡ true → (good (largest good n) ≡ true) × (1 ≤ largest good n) × (largest good n ≤ n)
unfolding largest
largest-good good zero h g = absurd (omega arith)
largest-good good (suc zero) h g = rw g (g, omega arith, omega arith)
largest-good good (suc (suc n)) h g = go (good (suc (suc n))) refl (largest-good good (suc n) (omega arith) g)
  where
    go : (t : Bool) → good (suc (suc n)) ≡ t → (good (largest good (suc n)) ≡ true) × (1 ≤ largest good (suc n)) × (largest good (suc n) ≤ suc n)
        → (good (cond t (suc (suc n)) (largest good (suc n))) ≡ true) × (1 ≤ cond t (suc (suc n)) (largest good (suc n)))
        × (cond t (suc (suc n)) (largest good (suc n)) ≤ suc (suc n))
    go true e ih = (e, omega arith, omega arith)
    go false e ih = (ih.0, ih.1, omega (arith, ih.2))

largest-most : (good : ℕ → Bool) (n k : ℕ) → k ≤ n → good k ≡ true → k ≤ largest good n
unfolding largest
largest-most good zero k h g = h
largest-most good (suc n) k h g = go (good (suc n)) refl (eqb k (suc n)) (same? k (suc n)) (λ l. largest-most good n k l g)
  where
    go : (t : Bool) → good (suc n) ≡ t → (u : Bool) → Same k (suc n) u → (k ≤ n → k ≤ largest good n) → k ≤ cond t (suc n) (largest good n)
    go true e u s ih = h
    go false e true (same d) ih = let q : good (suc n) ≡ true = rw d at g in absurd (true≢false (sym q ∙ e))
    go false e false (other d) ih = ih (omega arith)

not-above-down : (r : Float) → Downward (λ k. not_above k r)
unfolding not_above
not-above-down nan i j h e = e
not-above-down (inf s) i j h e = e
not-above-down (fin true m x) i j h e = e
not-above-down (fin false m x) i j h e =
    le-leb (i * down x) (256 * (m * up x)) (omega (arith, mul-le-mul_right (down x) h, leb-true (j * down x) (256 * (m * up x)) e))

pub share-is : (r : Float) (k : ℕ) → k ≤ 255 → not_above k r ≡ true → not_above (k + 1) r ≡ false → k ≡ share r
unfolding share
share-is r k h g b = sym (largest-is (λ j. not_above j r) (not-above-down r) 255 k h g (ap (λ (j : ℕ). not_above j r) (sym (add-one k)) ∙ b))

-- for a ratio from 1/256 on and below 1
module _ (r : Float) (some : not_above 1 r ≡ true) (part : not_above 256 r ≡ false) where
  pub share-not-above : not_above (share r) r ≡ true
  unfolding share
  share-not-above = (largest-good (λ k. not_above k r) 255 (omega arith) some).0

  pub share-largest : (k : ℕ) → not_above k r ≡ true → k ≤ share r
  unfolding share
  share-largest k g = go (leb k 255) refl
    where
      go : (t : Bool) → leb k 255 ≡ t → k ≤ largest (λ j. not_above j r) 255
      go true e = largest-most (λ j. not_above j r) 255 k (leb-true k 255 e) g
      go false e = absurd (true≢false (sym (not-above-down r 256 k (omega (arith, leb-false k 255 e)) g) ∙ part))

  pub share-range : (1 ≤ share r) × (share r ≤ 255)
  unfolding share
  share-range = let p = largest-good (λ k. not_above k r) 255 (omega arith) some in (p.1, p.2)

-- AN ACCEPTED CALL, by the contract of `face_share`: its k, 1 to 255, is that of the face's ratio: k / 256 is not above it, and (k + 1) / 256 is.
pub record IsShare (r : Float) (k : ℕ) : Type 0 where
  pub not-above : not_above k r ≡ true
  pub largest_one : (j : ℕ) → not_above j r ≡ true → j ≤ k
  pub some : 1 ≤ k
  pub most : k ≤ 255

shared : (r : Float) (k : ℕ) → share_of r ≡ accepted k → IsShare r k
unfolding share_of
shared r k e = go (not_above 1 r && not (not_above 256 r)) refl e
  where
    go : (b : Bool) → (not_above 1 r && not (not_above 256 r)) ≡ b → cond b (accepted (share r)) (refused 20 0) ≡ accepted k → IsShare r k
    go true t e =
        let p = both_true (not_above 1 r) (not (not_above 256 r)) t in
        let part = not-true (not_above 256 r) p.1 in
        let q : share r ≡ k = cc in
        let range = share-range r p.0 part in
        record {
          not-above = rw q at (share-not-above r p.0 part);
          largest_one = λ j g. rw q at (share-largest r p.0 part j g);
          some = rw q at range.0;
          most = rw q at range.1;
        }
    go false t e = let z : ◌≡◌ {A = ℕ} 0 1 = cc in absurd (omega arith)

after : (f : Face) (v : Verdict) (k : ℕ) → share_found (found_after f v) ≡ accepted k → IsShare (ratio f) k
after f (accepted t) k e = go (eq (plus (first_side f) (second_side f)) none) e
  where
    go : (b : Bool) → share_found (cond b nothing (ratio_is (ratio f))) ≡ accepted k → IsShare (ratio f) k
    go true e = let z : ◌≡◌ {A = ℕ} 0 1 = cc in absurd (omega arith)
    go false e = shared (ratio f) k e
after f (refused i j) k e = let z : ◌≡◌ {A = ℕ} 0 1 = cc in absurd (omega arith)

pub call-shares : (f : Face) (k : ℕ) → share_by (Ok k) ≡ face_share f → IsShare (ratio f) k
unfolding face_share found
call-shares f k e = after f (coordinates_verdict f) k (sym e)
