-- What the test of a claim comes to: 21 by sizes and directions.
use Prim.Native.Nat.{ℕ, zero, suc}
use mathlib.Core.Path.{◌≡◌, refl, sym, ◌∙◌}
use mathlib.Core.Bool.{not, cond, ◌&&◌, and-true, and-false}
use native.Mathlib.Omega.{arith}
use borrow.Author.Tests.{eq-eqb, ne_eqb}
use lib.Dec.{eqb}
use lib.IntN.{ℤ, pos, negsuc}
use Rattle.signed.specs.Sign.{size, is_zero, is_negative}
use Rattle.model.specs.Mesh.{rim}
use Rattle.model.specs.Claims.{same_amount, claim_fit}
use Rattle.judging_claims.specs.Tests.{claim_parts}

-- 0 and its size
zero-size : (z : ℤ) → is_zero z ≡ eqb (size z) 0
zero-size (pos zero) = sym (eq-eqb 0 0 refl)
zero-size (pos (suc n)) = sym (ne_eqb (suc n) 0 (λ e. omega arith))
zero-size (negsuc n) = sym (ne_eqb (suc n) 0 (λ e. omega arith))

-- equal amounts have one size and one direction
amounts-agree : (x y : ℤ) → same_amount x y ≡ (eqb (size x) (size y) && cond (is_negative x) (is_negative y) (not (is_negative y)))
amounts-agree (pos m) (pos n) = rw (eq-eqb 0 0 refl)
amounts-agree (pos m) (negsuc n) = rw (ne_eqb 0 (suc n) (λ e. omega arith)) (and-false (eqb m 0) ∙ sym (and-false (eqb m (suc n))))
amounts-agree (negsuc m) (pos n) = rw (ne_eqb (suc m) 0 (λ e. omega arith)) (and-false (eqb 0 n) ∙ sym (and-false (eqb (suc m) n)))
amounts-agree (negsuc m) (negsuc n) = rw (eq-eqb 0 0 refl) (sym (and-true (eqb (suc m) (suc n))))

pub claim-by-parts : (second : ℕ) (u y x : ℤ) → claim_parts second (size u) (is_negative y) (size y) (is_negative x) (size x) ≡ claim_fit (eqb second rim) u y x
claim-by-parts second u y x = rw (zero-size u, zero-size x, amounts-agree x y)
