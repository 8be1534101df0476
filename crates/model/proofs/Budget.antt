-- Salt is neither made nor lost by any amounts that pass through the faces of a mesh: what the cells hold afterwards, with what
-- left over the rim, is what they held before, with what entered over it.
use Prim.Native.Nat.{ℕ, ◌+◌, ◌≤◌, ◌<◌}
use mathlib.Core.Path.{◌≡◌}
use mathlib.Core.Logic.{◌≢◌}
use mathlib.Core.Bool.{Bool, true, false, cond}
use native.Mathlib.Omega.{arith}
use lib.Dec.{eqb}
use lib.IntN.{ℤ}
use Rattle.lists.specs.Fold.{sum}
use Rattle.signed.specs.Sign.{forward, backward}
use Rattle.model.specs.Mesh.{Mesh, first, second, at_rim, rim, entering, leaving, incoming, outgoing, updated, total}
use Rattle.lists.proofs.Tests.{Same, same, other, same?}
use Rattle.lists.proofs.Sums.{sum-cong, sum-add, sum-swap, sum-none, sum-pick}
use Rattle.model.specs.Accepted.{Joined}

-- what crosses the rim outward and inward
unfoldable pub outward : Mesh → (ℕ → ℤ) → ℕ
outward M x = sum M.faces (λ f. cond (at_rim M f) (forward (x f)) 0)

unfoldable pub inward : Mesh → (ℕ → ℤ) → ℕ
inward M x = sum M.faces (λ f. cond (at_rim M f) (backward (x f)) 0)

-- the cells' parts of a that enters at k, and b that enters at l
split : (n k l a b : ℕ) → sum n (λ c. cond (eqb k c) a 0 + cond (eqb l c) b 0) ≡ sum n (λ c. cond (eqb k c) a 0) + sum n (λ c. cond (eqb l c) b 0)
split n k l a b = sum-add n (λ c. cond (eqb k c) a 0) (λ c. cond (eqb l c) b 0)

-- all cells together, through a face from l to k that a passes forward and b back
one-face : (n k l a b : ℕ) → n ≤ rim → l < n → (k ≢ rim → k < n)
    → sum n (λ c. cond (eqb k c) a 0 + cond (eqb l c) b 0) + cond (eqb k rim) a 0
    ≡ sum n (λ c. cond (eqb l c) a 0 + cond (eqb k c) b 0) + cond (eqb k rim) b 0
one-face n k l a b few at-l at-k = omega (arith, split n k l a b, split n l k a b, sum-pick n l a at-l, sum-pick n l b at-l, go (eqb k rim) (same? k rim))
  where
    go : (r : Bool) → Same k rim r → sum n (λ c. cond (eqb k c) a 0) + cond r a 0 + b ≡ sum n (λ c. cond (eqb k c) b 0) + cond r b 0 + a
    go true (same e) = omega (arith, sum-none n k a (omega arith), sum-none n k b (omega arith))
    go false (other d) = omega (arith, sum-pick n k a (at-k d), sum-pick n k b (at-k d))

module _ (M : Mesh) (j : Joined M) (x : ℕ → ℤ) where
  at-face : (f : ℕ) → f < M.faces
      → sum M.cells (λ c. entering M x c f) + cond (at_rim M f) (forward (x f)) 0
      ≡ sum M.cells (λ c. leaving M x c f) + cond (at_rim M f) (backward (x f)) 0
  unfolding entering leaving
  at-face f h = one-face M.cells (second M f) (first M f) (forward (x f)) (backward (x f)) j.few (j.first-in f h) (j.second_in f h)

  -- all faces together
  across : sum M.cells (incoming M x) + outward M x ≡ sum M.cells (outgoing M x) + inward M x
  unfolding incoming outgoing outward inward
  across = omega (
    arith,
    sum-swap M.cells M.faces (entering M x),
    sum-swap M.cells M.faces (leaving M x),
    sum-add M.faces (λ f. sum M.cells (λ c. entering M x c f)) (λ f. cond (at_rim M f) (forward (x f)) 0),
    sum-add M.faces (λ f. sum M.cells (λ c. leaving M x c f)) (λ f. cond (at_rim M f) (backward (x f)) 0),
    sum-cong M.faces (λ f. sum M.cells (λ c. entering M x c f) + cond (at_rim M f) (forward (x f)) 0)
        (λ f. sum M.cells (λ c. leaving M x c f) + cond (at_rim M f) (backward (x f)) 0) at-face,
  )

  pub budget : (m : ℕ → ℕ) → ((c : ℕ) → c < M.cells → outgoing M x c ≤ m c + incoming M x c)
      → total M (updated M m x) + outward M x ≡ total M m + inward M x
  unfolding total updated
  budget m h = omega (
    arith,
    across,
    sum-add M.cells (updated M m x) (outgoing M x),
    sum-add M.cells m (incoming M x),
    sum-cong M.cells (λ c. updated M m x c + outgoing M x c) (λ c. m c + incoming M x c) (λ c l. omega (arith, h c l)),
  )
