-- Laws of sums, of least and of greatest values over the indices below a count.
use Prim.Native.Nat.{ℕ, zero, suc, ◌+◌, ◌-◌, ◌*◌, ◌≤◌, ◌<◌, min, max}
use mathlib.Core.Path.{◌≡◌, refl, sym}
use mathlib.Core.Logic.{⊎_elim}
use mathlib.Core.Bool.{Bool, true, false, cond}
use native.Mathlib.Nat.{zero-mul, suc-mul, add-zero, add-suc, le_of_suc-le-suc, eq-or-lt_of_le}
use native.Mathlib.Numerals.{add-one}
use native.Mathlib.Omega.{arith}
use borrow.Author.Tests.{ne_eqb}
use lib.Dec.{eqb, leb}
use Rattle.lists.specs.Fold.{sum, least, greatest}
use Rattle.lists.proofs.Tests.{Same, same, other, same?, Fits, fits, exceeds, fits?}

pub sum-zero : (f : ℕ → ℕ) → sum 0 f ≡ 0
unfolding sum
sum-zero f = refl

pub sum_more : (n : ℕ) (f : ℕ → ℕ) → sum (n + 1) f ≡ sum n f + f n
unfolding sum
sum_more n f = rw (add-one n)

pub sum-cong : (n : ℕ) (f g : ℕ → ℕ) → ((i : ℕ) → i < n → f i ≡ g i) → sum n f ≡ sum n g
unfolding sum
sum-cong zero f g h = refl
sum-cong (suc n) f g h = omega (arith, sum-cong n f g (λ i l. h i (omega arith)), h n (omega arith))

pub sum_mono : (n : ℕ) (f g : ℕ → ℕ) → ((i : ℕ) → i < n → f i ≤ g i) → sum n f ≤ sum n g
unfolding sum
sum_mono zero f g h = omega arith
sum_mono (suc n) f g h = omega (arith, sum_mono n f g (λ i l. h i (omega arith)), h n (omega arith))

pub sum-add : (n : ℕ) (f g : ℕ → ℕ) → sum n (λ i. f i + g i) ≡ sum n f + sum n g
unfolding sum
sum-add zero f g = refl
sum-add (suc n) f g = omega (arith, sum-add n f g)

pub sum-scale : (n k : ℕ) (f : ℕ → ℕ) → sum n (λ i. f i * k) ≡ sum n f * k
unfolding sum
sum-scale zero k f = sym (zero-mul k)
sum-scale (suc n) k f = omega (arith, sum-scale n k f)

pub sum_zeros : (n : ℕ) → sum n (λ i. 0) ≡ 0
unfolding sum
sum_zeros zero = refl
sum_zeros (suc n) = omega (arith, sum_zeros n)

pub sum-swap : (n k : ℕ) (f : ℕ → ℕ → ℕ) → sum n (λ i. sum k (λ j. f i j)) ≡ sum k (λ j. sum n (λ i. f i j))
unfolding sum
sum-swap zero k f = sym (sum_zeros k)
sum-swap (suc n) k f = omega (arith, sum-swap n k f, sum-add k (λ j. sum n (λ i. f i j)) (λ j. f n j))

-- each term at most b
pub sum_bound : (n b : ℕ) (f : ℕ → ℕ) → ((i : ℕ) → i < n → f i ≤ b) → sum n f ≤ n * b
unfolding sum
sum_bound zero b f h = omega arith
sum_bound (suc n) b f h = rw (suc-mul n b) (omega (arith, sum_bound n b f (λ i l. h i (omega arith)), h n (omega arith)))

-- the first terms of a sum are at most the sum, and so are they with the next one
pub sum-fewer : (m n : ℕ) (f : ℕ → ℕ) → m ≤ n → sum m f ≤ sum n f
unfolding sum
sum-fewer m zero f l = let e : m ≡ 0 = omega arith in rw e (omega arith)
sum-fewer m (suc n) f l =
    let ih : m ≤ n → sum m f ≤ sum n f = sum-fewer m n f in
    ⊎_elim (λ (e : m ≡ suc n). rw e (omega arith)) (λ lt. omega (arith, ih (le_of_suc-le-suc lt))) (eq-or-lt_of_le l)

pub sum-term : (k n : ℕ) (f : ℕ → ℕ) → k < n → sum k f + f k ≤ sum n f
sum-term k n f l = rw (← sum_more k f) (sum-fewer (k + 1) n f (omega arith))

-- a sum in two parts, and in blocks of k, of which the last may be shorter
pub sum-split : (m n : ℕ) (f : ℕ → ℕ) → sum (m + n) f ≡ sum m f + sum n (λ i. f (m + i))
unfolding sum
sum-split m zero f = rw (add-zero m) (omega arith)
sum-split m (suc n) f = rw (add-suc m n) (omega (arith, sum-split m n f))

pub sum-blocks : (k n blocks : ℕ) (f : ℕ → ℕ) → sum blocks (λ b. sum (min k (n - b * k)) (λ i. f (b * k + i))) ≡ sum (min n (blocks * k)) f
unfolding sum
sum-blocks k n zero f = let q : min n (0 * k) ≡ 0 = omega (arith, zero-mul k) in rw q
sum-blocks k n (suc b) f = rw (sum-blocks k n b f) (go (leb n (b * k)) (fits? n (b * k)))
  where
    go : (t : Bool) → Fits n (b * k) t → sum (min n (b * k)) f + sum (min k (n - b * k)) (λ i. f (b * k + i)) ≡ sum (min n (suc b * k)) f
    go true (fits h) =
        let whole : min n (b * k) ≡ n = omega arith in
        let none : min k (n - b * k) ≡ 0 = omega arith in
        let still : min n (suc b * k) ≡ n = omega (arith, suc-mul b k) in
        rw (whole, none, still) (omega arith)
    go false (exceeds h) =
        let whole : min n (b * k) ≡ b * k = omega arith in
        let more : min n (suc b * k) ≡ b * k + min k (n - b * k) = omega (arith, suc-mul b k) in
        rw (whole, more) (sym (sum-split (b * k) (min k (n - b * k)) f))

-- what lands at place k is counted once, or not at all where k is past the count
pub sum-none : (n k a : ℕ) → n ≤ k → sum n (λ c. cond (eqb k c) a 0) ≡ 0
unfolding sum
sum-none zero k a h = refl
sum-none (suc n) k a h = rw (ne_eqb k n (omega arith)) (omega (arith, sum-none n k a (omega arith)))

pub sum-pick : (n k a : ℕ) → k < n → sum n (λ c. cond (eqb k c) a 0) ≡ a
unfolding sum
sum-pick zero k a h = omega arith
sum-pick (suc n) k a h = go (eqb k n) (same? k n) (sum-pick n k a)
  where
    go : (b : Bool) → Same k n b → (k < n → sum n (λ c. cond (eqb k c) a 0) ≡ a) → sum n (λ c. cond (eqb k c) a 0) + cond b a 0 ≡ a
    go true (same e) ih = omega (arith, sum-none n k a (omega arith))
    go false (other d) ih = omega (arith, ih (omega arith))

pub least_more : (n s : ℕ) (f : ℕ → ℕ) → least (n + 1) s f ≡ min (least n s f) (f n)
unfolding least
least_more n s f = rw (add-one n)

pub greatest-more : (n s : ℕ) (f : ℕ → ℕ) → greatest (n + 1) s f ≡ max (greatest n s f) (f n)
unfolding greatest
greatest-more n s f = rw (add-one n)

pub least-cong : (n s t : ℕ) (f g : ℕ → ℕ) → s ≡ t → ((i : ℕ) → i < n → f i ≡ g i) → least n s f ≡ least n t g
unfolding least
least-cong zero s t f g e h = e
least-cong (suc n) s t f g e h = rw (least-cong n s t f g e (λ i l. h i (omega arith)), h n (omega arith))

pub least_start : (n s : ℕ) (f : ℕ → ℕ) → least n s f ≤ s
unfolding least
least_start zero s f = omega arith
least_start (suc n) s f = omega (arith, least_start n s f)

pub least-each : (n s : ℕ) (f : ℕ → ℕ) (i : ℕ) → i < n → least n s f ≤ f i
unfolding least
least-each zero s f i h = omega arith
least-each (suc n) s f i h = go (eqb i n) (same? i n) (least-each n s f i)
  where
    go : (b : Bool) → Same i n b → (i < n → least n s f ≤ f i) → min (least n s f) (f n) ≤ f i
    go true (same e) ih = rw e (omega arith)
    go false (other d) ih = omega (arith, ih (omega arith))

pub greatest-cong : (n s t : ℕ) (f g : ℕ → ℕ) → s ≡ t → ((i : ℕ) → i < n → f i ≡ g i) → greatest n s f ≡ greatest n t g
unfolding greatest
greatest-cong zero s t f g e h = e
greatest-cong (suc n) s t f g e h = rw (greatest-cong n s t f g e (λ i l. h i (omega arith)), h n (omega arith))

pub greatest-start : (n s : ℕ) (f : ℕ → ℕ) → s ≤ greatest n s f
unfolding greatest
greatest-start zero s f = omega arith
greatest-start (suc n) s f = omega (arith, greatest-start n s f)

pub greatest-each : (n s : ℕ) (f : ℕ → ℕ) (i : ℕ) → i < n → f i ≤ greatest n s f
unfolding greatest
greatest-each zero s f i h = omega arith
greatest-each (suc n) s f i h = go (eqb i n) (same? i n) (greatest-each n s f i)
  where
    go : (b : Bool) → Same i n b → (i < n → f i ≤ greatest n s f) → f i ≤ max (greatest n s f) (f n)
    go true (same e) ih = rw e (omega arith)
    go false (other d) ih = omega (arith, ih (omega arith))

pub greatest-le : (n s : ℕ) (f : ℕ → ℕ) (k : ℕ) → s ≤ k → ((i : ℕ) → i < n → f i ≤ k) → greatest n s f ≤ k
unfolding greatest
greatest-le zero s f k h g = h
greatest-le (suc n) s f k h g = omega (arith, greatest-le n s f k h (λ i l. g i (omega arith)), g n (omega arith))
