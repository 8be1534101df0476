-- The first cells of an order: distinct, in order, and nothing left out that comes before one of them.
use Prim.Native.Nat.{ℕ, zero, suc, ◌*◌, ◌≤◌, ◌<◌, min}
use mathlib.Core.Path.{◌≡◌, refl, sym, ap, ◌∙◌}
use mathlib.Core.Logic.{◌≢◌, ◌⊎◌, inl, inr, ⊎_elim}
use mathlib.Core.Bool.{Bool, true, false, cond, true≢false}
use mathlib.Core.List.{List, [], ◌∷◌, ◌++◌, Memᴰ}
use native.Mathlib.Nat.{not-suc-le-zero, le_of_suc-le-suc, eq-or-lt_of_le}
use native.Mathlib.Omega.{arith}
use lib.Dec.{eqb, leb}
use lib.ListN.{length, get_or, take, drop, length-take, take-append-drop}
use Rattle.lists.specs.Marked.{count}
use Rattle.lists.proofs.Tests.{Same, same, other, same?, Fits, fits, exceeds, fits?}
use Rattle.board_order.specs.Order.{comes_before, insert_in_order, in_order}
use Rattle.board_order.specs.declared.Ranked.{Ranked}
use Rattle.board_order.proofs.Entries.{First, higher, larger, lower, first_of, comes-first, first-trans}
use Rattle.board_order.proofs.Insertion.{length-in_order}

after : (a b : ℕ) → (a < b → ⊥) → a ≢ b → b < a
after a b n d = go (leb a b) (fits? a b)
  where
    go : (t : Bool) → Fits a b t → b < a
    go true (fits l) = ⊎_elim (λ e. absurd (d e)) (λ h. absurd (n h)) (eq-or-lt_of_le l)
    go false (exceeds l) = l

-- a strict order of the cells below n, in which any two of them stand one before the other
pub record Strict (n : ℕ) (order : ℕ → ℕ → Bool) : Type 0 where
  pub irreflexive : (a : ℕ) → a < n → order a a ≡ false
  pub transitive : (a b c : ℕ) → a < n → b < n → c < n → order a b ≡ true → order b c ≡ true → order a c ≡ true
  pub total : (a b : ℕ) → a < n → b < n → a ≢ b → order a b ≡ false → order b a ≡ true

get_or-mem : (l : List ℕ) (i : ℕ) → i < length l → Memᴰ (get_or l i 0) l
get_or-mem [] i h = absurd (not-suc-le-zero h)
get_or-mem (x ∷ l) zero h = mathlib.Core.List.Memᴰ.head refl
get_or-mem (x ∷ l) (suc i) h = mathlib.Core.List.Memᴰ.tail (get_or-mem l i (le_of_suc-le-suc h))

take-mem : (m : ℕ) (l : List ℕ) {c : ℕ} → Memᴰ c (take m l) → Memᴰ c l
take-mem zero l h = absurd (mathlib.Core.List.Memᴰ.not-nil h)
take-mem (suc m) [] h = h
take-mem (suc m) (x ∷ l) h = ⊎_elim (λ e. mathlib.Core.List.Memᴰ.head e) (λ t. mathlib.Core.List.Memᴰ.tail (take-mem m l t)) (mathlib.Core.List.Memᴰ.cases_cons h)

module _ (order : ℕ → ℕ → Bool) where
  -- each comes before all that follow it
  abbrev Sorted : List ℕ → Type 0
  Sorted [] = Unit {0}
  Sorted (a ∷ l) = ((d : ℕ) → Memᴰ d l → order a d ≡ true) × Sorted l

  mem-insert : {d : ℕ} (c : ℕ) (l : List ℕ) → Memᴰ d (insert_in_order order c l) → (d ≡ c) ⊎ Memᴰ d l
  unfolding insert_in_order
  mem-insert c [] h = mathlib.Core.List.Memᴰ.cases_cons h
  mem-insert {d} c (x ∷ l) h = go (order c x) (mem-insert c l) h
    where
      go : (b : Bool) → (Memᴰ d (insert_in_order order c l) → (d ≡ c) ⊎ Memᴰ d l) → Memᴰ d (cond b (c ∷ x ∷ l) (x ∷ insert_in_order order c l))
          → (d ≡ c) ⊎ Memᴰ d (x ∷ l)
      go true ih h = mathlib.Core.List.Memᴰ.cases_cons h
      go false ih h = ⊎_elim (λ e. inr (mathlib.Core.List.Memᴰ.head e)) (λ t. ⊎_elim (λ e. inl e) (λ t. inr (mathlib.Core.List.Memᴰ.tail t)) (ih t)) (mathlib.Core.List.Memᴰ.cases_cons h)

  insert-mem : {d : ℕ} (c : ℕ) (l : List ℕ) → (d ≡ c) ⊎ Memᴰ d l → Memᴰ d (insert_in_order order c l)
  unfolding insert_in_order
  insert-mem c [] h = ⊎_elim (λ e. mathlib.Core.List.Memᴰ.head e) (λ t. mathlib.Core.List.Memᴰ.tail t) h
  insert-mem {d} c (x ∷ l) h = go (order c x) (insert-mem c l) h
    where
      go : (b : Bool) → ((d ≡ c) ⊎ Memᴰ d l → Memᴰ d (insert_in_order order c l)) → (d ≡ c) ⊎ Memᴰ d (x ∷ l)
          → Memᴰ d (cond b (c ∷ x ∷ l) (x ∷ insert_in_order order c l))
      go true ih (inl e) = mathlib.Core.List.Memᴰ.head e
      go true ih (inr t) = mathlib.Core.List.Memᴰ.tail t
      go false ih (inl e) = mathlib.Core.List.Memᴰ.tail (ih (inl e))
      go false ih (inr t) = ⊎_elim (λ e. mathlib.Core.List.Memᴰ.head e) (λ s. mathlib.Core.List.Memᴰ.tail (ih (inr s))) (mathlib.Core.List.Memᴰ.cases_cons t)

  -- the cells in order are the visible ones below n
  module _ (visible : ℕ → Bool) where
    in_order-below : (n : ℕ) {c : ℕ} → Memᴰ c (in_order visible order n) → (c < n) × (visible c ≡ true)
    unfolding in_order
    in_order-below zero h = absurd (mathlib.Core.List.Memᴰ.not-nil h)
    in_order-below (suc n) {c} h = go (visible n) refl (in_order-below n) h
      where
        earlier : (c < n) × (visible c ≡ true) → (c < suc n) × (visible c ≡ true)
        earlier p = (omega (arith, p.0), p.1)

        go : (b : Bool) → visible n ≡ b → (Memᴰ c (in_order visible order n) → (c < n) × (visible c ≡ true))
            → Memᴰ c (cond b (insert_in_order order n (in_order visible order n)) (in_order visible order n)) → (c < suc n) × (visible c ≡ true)
        go true v ih t = ⊎_elim (λ (e : c ≡ n). (omega arith, rw e v)) (λ s. earlier (ih s)) (mem-insert n (in_order visible order n) t)
        go false v ih t = earlier (ih t)

    in_order-all : (n : ℕ) {c : ℕ} → c < n → visible c ≡ true → Memᴰ c (in_order visible order n)
    unfolding in_order
    in_order-all zero h v = absurd (not-suc-le-zero h)
    in_order-all (suc n) {c} h v = go (visible n) refl (eqb c n) (same? c n) (λ l. in_order-all n l v)
      where
        go : (b : Bool) → visible n ≡ b → (t : Bool) → Same c n t → (c < n → Memᴰ c (in_order visible order n))
            → Memᴰ c (cond b (insert_in_order order n (in_order visible order n)) (in_order visible order n))
        go true w true (same e) ih = insert-mem n (in_order visible order n) (inl e)
        go true w false (other d) ih = insert-mem n (in_order visible order n) (inr (ih (omega arith)))
        go false w true (same e) ih = absurd (true≢false (sym v ∙ ap visible e ∙ w))
        go false w false (other d) ih = ih (omega arith)

  before-cell : {a b c : ℕ} → c ≡ b → order a b ≡ true → order a c ≡ true
  before-cell e h = rw e h

  -- by places: each comes before every later one
  sorted-places : (l : List ℕ) → Sorted l → (i j : ℕ) → i < j → j < length l → order (get_or l i 0) (get_or l j 0) ≡ true
  sorted-places [] s i j h k = absurd (not-suc-le-zero k)
  sorted-places (a ∷ l) s i zero h k = absurd (not-suc-le-zero h)
  sorted-places (a ∷ l) s zero (suc j) h k = s.0 (get_or l j 0) (get_or-mem l j (le_of_suc-le-suc k))
  sorted-places (a ∷ l) s (suc i) (suc j) h k = sorted-places l s.1 i j (le_of_suc-le-suc h) (le_of_suc-le-suc k)

  sorted-take : (m : ℕ) (l : List ℕ) → Sorted l → Sorted (take m l)
  sorted-take zero l s = tt
  sorted-take (suc m) [] s = tt
  sorted-take (suc m) (a ∷ l) s = ((λ d h. s.0 d (take-mem m l h)), sorted-take m l s.1)

  drop-mem : (m : ℕ) (l : List ℕ) {c : ℕ} → Memᴰ c (drop m l) → Memᴰ c l
  drop-mem zero l h = h
  drop-mem (suc m) [] h = h
  drop-mem (suc m) (x ∷ l) h = mathlib.Core.List.Memᴰ.tail (drop-mem m l h)

  sorted-split : (m : ℕ) (l : List ℕ) → Sorted l → {a c : ℕ} → Memᴰ a (take m l) → Memᴰ c (drop m l) → order a c ≡ true
  sorted-split zero l s h k = absurd (mathlib.Core.List.Memᴰ.not-nil h)
  sorted-split (suc m) [] s h k = absurd (mathlib.Core.List.Memᴰ.not-nil h)
  sorted-split (suc m) (x ∷ l) s {a} {c} h k = ⊎_elim (λ (e : a ≡ x). rw e (s.0 c (drop-mem m l k))) (λ t. sorted-split m l s.1 t k)
      (mathlib.Core.List.Memᴰ.cases_cons h)

  -- The first m of the visible cells below n, or all of them where there are fewer.
  module _ (visible : ℕ → Bool) (m n : ℕ) where
    pub first_count : length (take m (in_order visible order n)) ≡ min m (count n visible)
    first_count = length-take m _ ∙ ap (min m) (length-in_order visible order n)

    pub first_below : {c : ℕ} → Memᴰ c (take m (in_order visible order n)) → (c < n) × (visible c ≡ true)
    first_below h = in_order-below visible n (take-mem m (in_order visible order n) h)

  module _ (n : ℕ) (strict : Strict n order) where
    sorted_insert : (c : ℕ) (l : List ℕ) → c < n → ((d : ℕ) → Memᴰ d l → d < n) → ((d : ℕ) → Memᴰ d l → c ≢ d) → Sorted l
        → Sorted (insert_in_order order c l)
    unfolding insert_in_order
    sorted_insert c [] k m n s = ((λ d h. absurd (mathlib.Core.List.Memᴰ.not-nil h)), tt)
    sorted_insert c (x ∷ l) k m n s = go (order c x) refl (sorted_insert c l k (λ d h. m d (mathlib.Core.List.Memᴰ.tail h)) (λ d h. n d (mathlib.Core.List.Memᴰ.tail h)) s.1)
      where
        go : (b : Bool) → order c x ≡ b → Sorted (insert_in_order order c l) → Sorted (cond b (c ∷ x ∷ l) (x ∷ insert_in_order order c l))
        go true e ih = (
          (λ d h. ⊎_elim (λ q. before-cell q e)
              (λ t. strict.transitive c x d k (m x (mathlib.Core.List.Memᴰ.head refl)) (m d (mathlib.Core.List.Memᴰ.tail t)) e (s.0 d t)) (mathlib.Core.List.Memᴰ.cases_cons h)),
          s,
        )
        go false e ih =
            let r : order x c ≡ true = strict.total c x k (m x (mathlib.Core.List.Memᴰ.head refl)) (n x (mathlib.Core.List.Memᴰ.head refl)) e in
            ((λ d h. ⊎_elim (λ q. before-cell q r) (λ t. s.0 d t) (mem-insert c l h)), ih)

    module _ (visible : ℕ → Bool) where
      sorted-below : (k : ℕ) → k ≤ n → Sorted (in_order visible order k)
      unfolding in_order
      sorted-below zero h = tt
      sorted-below (suc k) h = go (visible k) (sorted-below k (omega arith))
        where
          go : (b : Bool) → Sorted (in_order visible order k) → Sorted (cond b (insert_in_order order k (in_order visible order k)) (in_order visible order k))
          go true ih =
              sorted_insert k (in_order visible order k) h (λ d t. omega (arith, (in_order-below visible k t).0))
              (λ d t e. omega (arith, (in_order-below visible k t).0)) ih
          go false ih = ih

      in_order-sorted : Sorted (in_order visible order n)
      in_order-sorted = sorted-below n (omega arith)

      -- how the first m of them stand
      module _ (m : ℕ) where
        pub first-ordered : (i j : ℕ) → i < j → j < length (take m (in_order visible order n))
            → order (get_or (take m (in_order visible order n)) i 0) (get_or (take m (in_order visible order n)) j 0) ≡ true
        first-ordered = sorted-places (take m (in_order visible order n)) (sorted-take m (in_order visible order n) in_order-sorted)

        pub first-distinct : (i j : ℕ) → i < j → j < length (take m (in_order visible order n))
            → get_or (take m (in_order visible order n)) i 0 ≢ get_or (take m (in_order visible order n)) j 0
        first-distinct i j h k e =
            let a = get_or (take m (in_order visible order n)) i 0 in
            let l : a < n = (first_below visible m n (get_or-mem (take m (in_order visible order n)) i (omega arith))).0 in
            true≢false (sym (before-cell e (first-ordered i j h k)) ∙ strict.irreflexive a l)

        -- a visible cell that is left out comes after each of the first
        pub left-out-after : {c d : ℕ} → c < n → visible c ≡ true → (Memᴰ c (take m (in_order visible order n)) → ⊥)
            → Memᴰ d (take m (in_order visible order n)) → order d c ≡ true
        left-out-after {c} h v out k =
            let all : Memᴰ c (take m (in_order visible order n) ++ drop m (in_order visible order n)) =
            rw (take-append-drop m (in_order visible order n)) (in_order-all visible n h v) in
            ⊎_elim (λ t. absurd (out t)) (λ t. sorted-split m (in_order visible order n) in_order-sorted k t)
            (mathlib.Core.List.Memᴰ.append_cases (take m (in_order visible order n)) all)

not_first : (a b : Ranked) → (First a b → ⊥) → comes_before a b ≡ false
not_first a b n = go (comes_before a b) refl
  where
    go : (t : Bool) → comes_before a b ≡ t → t ≡ false
    go false e = refl
    go true e = absurd (n (first_of a b e))

-- The board's order is such an order, whatever the concentrations, where no volume is 0.
module _ (n : ℕ) (f : ℕ → Ranked) (cell-is : (c : ℕ) → (f c).cell ≡ c) (some : (c : ℕ) → c < n → 1 ≤ (f c).volume) where
  not_itself : (a : Ranked) → First a a → ⊥
  not_itself a (higher h) = omega arith
  not_itself a (larger e h) = omega arith
  not_itself a (lower e d h) = omega arith

  other-first : (a b : ℕ) → a ≢ b → (First (f a) (f b) → ⊥) → First (f b) (f a)
  other-first a b d h = by-q (eqb (f a).q (f b).q) (same? (f a).q (f b).q)
    where
      of-a : ℕ
      of-a = (f a).rest * (f b).volume

      of-b : ℕ
      of-b = (f b).rest * (f a).volume

      by_parts : (f a).q ≡ (f b).q → (t : Bool) → Same of-a of-b t → First (f b) (f a)
      by_parts e true (same p) = lower (sym e) (sym p) (after (f a).cell (f b).cell (λ l. h (lower e p l)) (λ q. d (sym (cell-is a) ∙ q ∙ cell-is b)))
      by_parts e false (other p) = larger (sym e) (after of-b of-a (λ l. h (larger e l)) (λ q. p (sym q)))

      by-q : (t : Bool) → Same (f a).q (f b).q t → First (f b) (f a)
      by-q true (same e) = by_parts e (eqb of-a of-b) (same? of-a of-b)
      by-q false (other p) = higher (after (f b).q (f a).q (λ l. h (higher l)) (λ q. p (sym q)))

  pub board-strict : Strict n (λ a b. comes_before (f a) (f b))
  board-strict = record {
    irreflexive = λ a h. not_first (f a) (f a) (not_itself (f a));
    transitive = λ a b c i j k h l.
        comes-first (f a) (f c) (first-trans (f a) (f b) (f c) (some a i) (some b j) (some c k) (first_of (f a) (f b) h) (first_of (f b) (f c) l));
    total = λ a b i j d h. comes-first (f b) (f a) (other-first a b d (λ k. true≢false (sym (comes-first (f a) (f b) k) ∙ h)));
  }
