-- Sums, least and greatest values of things that are renumbered: each sum is written as one over both numberings, and the two change places.
-- Tables carried along: their lengths, their entries, and what is written over one.
use Prim.Native.Nat.{ℕ, zero, suc, ◌≤◌, ◌<◌}
use mathlib.Core.Path.{◌≡◌, refl, sym, ap, ◌∙◌}
use mathlib.Core.Logic.{◌≢◌}
use mathlib.Core.Bool.{Bool, true, false, cond}
use native.Mathlib.Omega.{arith}
use mathlib.Core.List.{List}
use borrow.Author.Tests.{eq-eqb, ne_eqb, le-leb}
use lib.Dec.{eqb, ltb}
use lib.ListN.{length, get_or}
use Rattle.lists.specs.Fold.{sum, least, greatest}
use Rattle.lists.specs.Table.{table, over}
use Rattle.lists.proofs.Tests.{Same, same, other, same?, Fits, fits, exceeds, fits?, cond_same}
use Rattle.lists.proofs.Sums.{sum-cong, sum_zeros, sum-swap, sum-pick, least_start, least-each, greatest-start, greatest-each, greatest-le}
use Rattle.lists.proofs.Tables.{length-table, get_or-table, is-table, length_over, get_d_over, get_d_past}
use Rattle.lists.specs.Renumbering.{Renumbering, carried_along}

-- The m things of g among the n of f, thing j of g at `to j`: the sums are the same where f is 0 at all others.
module _ (m n : ℕ) (g f : ℕ → ℕ) (to from : ℕ → ℕ) (to_in : (j : ℕ) → j < m → to j < n) (from-to : (j : ℕ) → j < m → from (to j) ≡ j)
    (rest : (i : ℕ) → i < n → f i ≢ 0 → (from i < m) × (to (from i) ≡ i)) (same_at : (j : ℕ) → j < m → g j ≡ f (to j)) where
  -- thing i of f, if it is one of g's, is met once
  met : (i : ℕ) → i < n → sum m (λ j. cond (eqb (to j) i) (f i) 0) ≡ f i
  met i h = go (eqb (f i) 0) (same? (f i) 0)
    where
      once : to (from i) ≡ i → (j : ℕ) → j < m → eqb (to j) i ≡ eqb (from i) j
      once e j l = one (eqb (from i) j) (same? (from i) j)
        where
          one : (b : Bool) → Same (from i) j b → eqb (to j) i ≡ b
          one true (same d) = eq-eqb (to j) i (ap to (sym d) ∙ e)
          one false (other d) = ne_eqb (to j) i (λ q. d (ap from (sym q) ∙ from-to j l))

      go : (b : Bool) → Same (f i) 0 b → sum m (λ j. cond (eqb (to j) i) (f i) 0) ≡ f i
      go true (same e) = rw e (sum-cong m (λ j. cond (eqb (to j) i) 0 0) (λ j. 0) (λ j l. cond_same (eqb (to j) i) 0) ∙ sum_zeros m)
      go false (other d) =
          let p = rest i h d in
          sum-cong m (λ j. cond (eqb (to j) i) (f i) 0) (λ j. cond (eqb (from i) j) (f i) 0) (λ j l. ap (λ (b : Bool). cond b (f i) 0) (once p.1 j l))
          ∙ sum-pick m (from i) (f i) p.0

  pub sum-along : sum m g ≡ sum n f
  sum-along =
      sum-cong m g (λ j. sum n (λ i. cond (eqb (to j) i) (f i) 0))
      (λ j l. same_at j l ∙ sym (sum-cong n _ _ (λ i h. at_j j i) ∙ sum-pick n (to j) (f (to j)) (to_in j l)))
      ∙ sum-swap m n (λ j i. cond (eqb (to j) i) (f i) 0)
      ∙ sum-cong n (λ i. sum m (λ j. cond (eqb (to j) i) (f i) 0)) f met
    where
      at_j : (j i : ℕ) → cond (eqb (to j) i) (f i) 0 ≡ cond (eqb (to j) i) (f (to j)) 0
      at_j j i = go (eqb (to j) i) (same? (to j) i)
        where
          go : (b : Bool) → Same (to j) i b → cond b (f i) 0 ≡ cond b (f (to j)) 0
          go true (same e) = ap f (sym e)
          go false s = refl

pub least-ge : (n s : ℕ) (f : ℕ → ℕ) (k : ℕ) → k ≤ s → ((i : ℕ) → i < n → k ≤ f i) → k ≤ least n s f
unfolding least
least-ge zero s f k h g = h
least-ge (suc n) s f k h g = omega (arith, least-ge n s f k h (λ i l. g i (omega arith)), g n (omega arith))

module _ (n : ℕ) (r : Renumbering n) (g f : ℕ → ℕ) (same_at : (i : ℕ) → i < n → g (r.new i) ≡ f i) where
  pub sum-renumbered : sum n g ≡ sum n f
  sum-renumbered = sym (sum-along n n f g r.new r.old r.new_in r.old_new (λ i h d. (r.old_in i h, r.new_old i h)) (λ j h. sym (same_at j h)))

  at_old : (i : ℕ) → i < n → g i ≡ f (r.old i)
  at_old i h = ap g (sym (r.new_old i h)) ∙ same_at (r.old i) (r.old_in i h)

  pub least-renumbered : (t s : ℕ) → t ≡ s → least n t g ≡ least n s f
  least-renumbered t s e =
      let a = least-ge n s f (least n t g) (omega (arith, least_start n t g)) (λ i h. omega (arith, least-each n t g (r.new i) (r.new_in i h), same_at i h))
      in
      let b = least-ge n t g (least n s f) (omega (arith, least_start n s f)) (λ i h. omega (arith, least-each n s f (r.old i) (r.old_in i h), at_old i h)) in
      omega arith

  pub greatest-renumbered : (t s : ℕ) → t ≡ s → greatest n t g ≡ greatest n s f
  greatest-renumbered t s e =
      let a = greatest-le n s f (greatest n t g) (omega (arith, greatest-start n t g))
      (λ i h. omega (arith, greatest-each n t g (r.new i) (r.new_in i h), same_at i h)) in
      let b = greatest-le n t g (greatest n s f) (omega (arith, greatest-start n s f))
      (λ i h. omega (arith, greatest-each n s f (r.old i) (r.old_in i h), at_old i h)) in
      omega arith

-- what is told apart is told apart by the new numbers
pub renumbered-eqb : (n : ℕ) (r : Renumbering n) (i j : ℕ) → i < n → j < n → eqb (r.new i) (r.new j) ≡ eqb i j
renumbered-eqb n r i j h l = go (eqb i j) (same? i j)
  where
    go : (b : Bool) → Same i j b → eqb (r.new i) (r.new j) ≡ b
    go true (same e) = eq-eqb _ _ (ap r.new e)
    go false (other d) = ne_eqb _ _ (λ e. d (sym (r.old_new i h) ∙ ap r.old e ∙ r.old_new j l))

-- tables carried along
module _ {A : Type 0} (n : ℕ) (r : Renumbering n) (entry : ℕ → A) (d : A) (xs : List A) where
  pub length-carried : length (carried_along n r entry d xs) ≡ length xs
  unfolding carried_along
  length-carried = length-table (length xs) _

  pub get_or-carried : n ≤ length xs → (i : ℕ) → i < n → get_or (carried_along n r entry d xs) (r.new i) d ≡ entry i
  unfolding carried_along
  get_or-carried long i h = let l = r.new_in i h in get_or-table (length xs) _ d (r.new i) (omega arith) ∙ rw (le-leb (suc (r.new i)) n l, r.old_new i h)

  -- a table of things by their new numbers, written over a longer one
  pub over-carried : (f : ℕ → A) → ((i : ℕ) → i < n → f (r.new i) ≡ entry i) → n ≤ length xs → over (table n f) xs ≡ carried_along n r entry d xs
  unfolding carried_along
  over-carried f same_at long = is-table d (over (table n f) xs) (length xs) _ (length_over n f xs long) (λ i l. go i (ltb i n) (fits? (suc i) n))
    where
      go : (i : ℕ) (b : Bool) → Fits (suc i) n b → get_or (over (table n f) xs) i d ≡ cond b (entry (r.old i)) (get_or xs i d)
      go i true (fits h) = get_d_over n f xs d i h ∙ ap f (sym (r.new_old i h)) ∙ same_at (r.old i) (r.old_in i h)
      go i false (exceeds h) = get_d_past n f xs d i (omega arith)
