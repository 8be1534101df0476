-- Marked things: old numbers and new ones undo each other.
use Prim.Native.Nat.{ℕ, zero, suc, ◌+◌, ◌≤◌, ◌<◌}
use mathlib.Core.Path.{◌≡◌, refl}
use mathlib.Core.Bool.{Bool, true, false, cond, ◌&&◌}
use native.Mathlib.Omega.{arith}
use borrow.Author.Tests.{eq-eqb, ne_eqb}
use lib.Dec.{eqb}
use Rattle.lists.specs.Fold.{sum}
use Rattle.lists.proofs.Tests.{Same, same, other, same?}
use Rattle.lists.proofs.Sums.{sum-fewer, sum-term}
use mathlib.Core.List.{List}
use lib.ListN.{length, get_or}
use Rattle.lists.specs.Table.{over}
use Rattle.lists.proofs.Tables.{length_over, get_d_over}
use Rattle.lists.specs.Marked.{count, old, picked}

module _ (marked : ℕ → Bool) where
  abbrev one : ℕ → ℕ
  one i = cond (marked i) 1 0

  pub count-fewer : (m n : ℕ) → m ≤ n → count m marked ≤ count n marked
  unfolding count
  count-fewer m n h = sum-fewer m n one h

  -- a marked thing is counted
  pub count_next : (k n : ℕ) → k < n → marked k ≡ true → count k marked < count n marked
  unfolding count
  count_next k n h e = let t : sum k one + 1 ≤ sum n one = rw e at (sum-term k n one h) in omega arith

  pub count_most : (n : ℕ) → count n marked ≤ n
  unfolding count sum
  count_most zero = omega arith
  count_most (suc n) = go (marked n) (count_most n)
    where
      go : (b : Bool) → sum n one ≤ n → sum n one + cond b 1 0 ≤ suc n
      go true h = omega arith
      go false h = omega arith

  -- the old number of a thing that has its new number
  pub old-count : (n k : ℕ) → k < n → marked k ≡ true → old n marked (count k marked) ≡ k
  unfolding old
  old-count zero k h e = absurd (omega arith)
  old-count (suc n) k h e = go (eqb k n) (same? k n) (λ l. old-count n k l e)
    where
      last : (b : Bool) → (b && false) ≡ false
      last true = refl
      last false = refl

      go : (b : Bool) → Same k n b → (k < n → old n marked (count k marked) ≡ k)
          → cond (marked n && eqb (count n marked) (count k marked)) n (old n marked (count k marked)) ≡ k
      go true (same d) ih = rw (← d, e, eq-eqb (count k marked) (count k marked) refl)
      go false (other d) ih =
          let l : k < n = omega arith in
          rw (ne_eqb (count n marked) (count k marked) (λ q. absurd (omega (arith, count_next k n l e))), last (marked n)) (ih l)

  -- every new number is that of a marked thing
  abbrev At : ℕ → ℕ → ℕ → Type 0
  At n i k = (k < n) × (marked k ≡ true) × (count k marked ≡ i)

  pub old-marked : (n i : ℕ) → i < count n marked → At n i (old n marked i)
  unfolding old count sum
  old-marked zero i h = absurd (omega arith)
  old-marked (suc n) i h = go (marked n) refl (eqb (count n marked) i) (same? (count n marked) i) h (old-marked n i)
    where
      earlier : At n i (old n marked i) → At (suc n) i (old n marked i)
      earlier a = (omega (arith, a.0), a.1, a.2)

      go : (b : Bool) → marked n ≡ b → (t : Bool) → Same (count n marked) i t → i < count n marked + cond b 1 0
          → (i < count n marked → At n i (old n marked i)) → At (suc n) i (cond (b && t) n (old n marked i))
      go true e true (same d) l ih = (omega arith, e, d)
      go true e false (other d) l ih = earlier (ih (omega arith))
      go false e t s l ih = earlier (ih (omega arith))

-- a table of marked things over the front of a lent one
module _ {A : Type 0} (n : ℕ) (marked : ℕ → Bool) (entry : ℕ → A) (ys : List A) where
  pub picked-at : (d : A) (i : ℕ) → i < count n marked → get_or (over (picked n marked entry) ys) i d ≡ entry (old n marked i)
  unfolding picked
  picked-at d i h = get_d_over (count n marked) (λ i. entry (old n marked i)) ys d i h

  pub picked-long : n ≤ length ys → length (over (picked n marked entry) ys) ≡ length ys
  unfolding picked
  picked-long h = length_over (count n marked) (λ i. entry (old n marked i)) ys (omega (arith, count_most marked n))
