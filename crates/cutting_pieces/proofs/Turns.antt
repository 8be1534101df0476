-- A turn of a loop that puts marked entries one after another: the place comes to be how many were marked, the table what was picked so far.
use Prim.Native.Nat.{ℕ, ◌+◌, ◌<◌}
use lib.IntN.{ℤ, pos, negsuc}
use Rattle.signed.specs.Sign.{is_negative, size, with_sign, turn}
use mathlib.Core.Path.{◌≡◌, refl, sym, ap, ◌∙◌}
use mathlib.Core.Bool.{Bool, true, false, not, cond, ◌&&◌}
use mathlib.Core.List.{List}
use native.Mathlib.Numerals.{add-one}
use native.Mathlib.Omega.{arith}
use borrow.Author.Tests.{eq-eqb, ne_eqb}
use lib.Dec.{eqb}
use native.Mathlib.Nat.{add-zero}
use lib.ListN.{length, set}
use Rattle.lists.specs.Table.{table, over}
use Rattle.lists.specs.Marked.{count, old, picked}
use Rattle.lists.proofs.Sums.{sum_more, sum-zero}
use Rattle.lists.proofs.Tables.{over-start, over-step, table-cong}
use Rattle.lists.proofs.Marked.{count_most}

pub count-start : (marked : ℕ → Bool) → count 0 marked ≡ 0
unfolding count
count-start marked = sum-zero _

pub count-more : (marked : ℕ → Bool) (n : ℕ) → count (n + 1) marked ≡ count n marked + cond (marked n) 1 0
unfolding count
count-more marked n = sum_more n _

module _ {A : Type 0} (marked : ℕ → Bool) (entry : ℕ → A) (ys : List A) where
  pub picked-start : ys ≡ over (picked 0 marked entry) ys
  unfolding picked
  picked-start = rw (count-start marked) (over-start (λ i. entry (old 0 marked i)) ys)

  -- those before the turn keep their old numbers
  earlier : (d : A) (n : ℕ) (b : Bool) → table (count n marked) (λ i. entry (cond (b && eqb (count n marked) i) n (old n marked i)))
      ≡ table (count n marked) (λ i. entry (old n marked i))
  earlier d n b = table-cong d (count n marked) _ _ (λ i l. ap entry (go b i l))
    where
      go : (b : Bool) (i : ℕ) → i < count n marked → cond (b && eqb (count n marked) i) n (old n marked i) ≡ old n marked i
      go false i l = refl
      go true i l = rw (ne_eqb (count n marked) i (λ e. absurd (omega arith)))

  -- no entry is put, or one
  none : (d : A) (n : ℕ) → over (table (count n marked + 0) (λ i. entry (cond (false && eqb (count n marked) i) n (old n marked i)))) ys
      ≡ over (table (count n marked) (λ i. entry (old n marked i))) ys
  none d n = rw (add-zero (count n marked))

  pub picked-turn : (d : A) (n at : ℕ) (b : Bool) {s s' : List A} {v : A} → n < length ys → at ≡ count n marked → b ≡ marked n → v ≡ entry n
      → s ≡ over (picked n marked entry) ys → s' ≡ cond b (set s at v) s → s' ≡ over (picked (n + 1) marked entry) ys
  unfolding picked old
  picked-turn d n at b {s} {s'} {v} h p q e i j = rw (count-more marked n, add-one n, ← q) (go b j)
    where
      go : (b : Bool) → s' ≡ cond b (set s at v) s
          → s' ≡ over (table (count n marked + cond b 1 0) (λ i. entry (cond (b && eqb (count n marked) i) n (old n marked i)))) ys
      go false j = j ∙ i ∙ sym (none d n)
      go true j = j ∙ ap (λ (k : ℕ). set s k v) p
          ∙ over-step (λ i. entry (cond (eqb (count n marked) i) n (old n marked i))) ys (count n marked) {s = s} {v = v} (omega (arith, count_most marked n))
          (i ∙ ap (λ (xs : List A). over xs ys) (sym (earlier d n true))) (rw (eq-eqb (count n marked) (count n marked) refl) e)

-- the place after a turn
pub count_turn : (marked : ℕ → Bool) (n : ℕ) {at at' : ℕ} {b : Bool} → at ≡ count n marked → b ≡ marked n → at' ≡ at + cond b 1 0 → at' ≡ count (n + 1) marked
count_turn marked n p q r = rw (count-more marked n, ← q, ← p) r

-- an amount by its sign and its size, turned or not
pub sign-turned : (t : Bool) (z : ℤ) → with_sign (cond t (not (is_negative z)) (is_negative z)) (size z) ≡ turn t z
sign-turned false (pos n) = refl
sign-turned false (negsuc n) = refl
sign-turned true (pos n) = refl
sign-turned true (negsuc n) = refl

pub amount-is : (t : Bool) (z : ℤ) {minus : Bool} {n : ℕ} → minus ≡ cond t (not (is_negative z)) (is_negative z) → n ≡ size z → with_sign minus n ≡ turn t z
amount-is t z e d = rw (e, d) (sign-turned t z)

-- what enters at a cut face, and the value elsewhere
pub enters_is : (t : Bool) (z : ℤ) (cut : Bool) (q v : ℕ) {minus : Bool} {n e r : ℕ} → r ≡ cond cut e v → e ≡ cond (is_negative (with_sign minus n)) q 0
    → minus ≡ cond t (not (is_negative z)) (is_negative z) → n ≡ size z → r ≡ cond cut (cond (is_negative (turn t z)) q 0) v
enters_is t z cut q v a b c d = a ∙ ap (λ (e : ℕ). cond cut e v) (b ∙ ap (λ (u : ℤ). cond (is_negative u) q 0) (amount-is t z c d))
