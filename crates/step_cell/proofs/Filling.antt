-- A pass that fills the entries of one cell after another.
use Prim.Native.Nat.{ℕ, zero, suc, ◌+◌, ◌*◌, ◌≤◌, ◌<◌}
use mathlib.Core.Path.{◌≡◌, refl, ◌∙◌}
use mathlib.Core.Bool.{true, cond}
use mathlib.Core.List.{List}
use native.Mathlib.Omega.{arith}
use borrow.Author.Count.{below_none, below_more}
use borrow.Author.Tests.{eq-eqb, leb-true, ne_eqb}
use lib.Dec.{eqb, leb}
use lib.ListN.{length, get_or, set, length-set}
use lib.Seq.{get_or-set_other}
use Rattle.step_cell.specs.Work.{of_cell, cell_filled, pick, Filling}
use Rattle.step_cell.proofs.Slots.{slot-set}

module _ (w : List ℕ) (a p l g n : ℕ) where
  pub length-filled : length (cell_filled w a p l g n) ≡ length w
  unfolding cell_filled
  length-filled = simp length-set

  filled-kept : (k : ℕ) → 4 * (a + 1) ≤ k → get_or (cell_filled w a p l g n) k 0 ≡ get_or w k 0
  unfolding cell_filled
  filled-kept k h =
      get_or-set_other (set (set (set w (4 * a + 0) p) (4 * a + 1) l) (4 * a + 2) g) (4 * a + 3) k n 0 (λ (e : k ≡ 4 * a + 3). omega arith)
      ∙ get_or-set_other (set (set w (4 * a + 0) p) (4 * a + 1) l) (4 * a + 2) k g 0 (λ (e : k ≡ 4 * a + 2). omega arith)
      ∙ get_or-set_other (set w (4 * a + 0) p) (4 * a + 1) k l 0 (λ (e : k ≡ 4 * a + 1). omega arith)
      ∙ get_or-set_other w (4 * a + 0) k p 0 (λ (e : k ≡ 4 * a + 0). omega arith)

  abbrev with-p : List ℕ
  with-p = set w (4 * a + 0) p

  abbrev with-l : List ℕ
  with-l = set with-p (4 * a + 1) l

  abbrev with-g : List ℕ
  with-g = set with-l (4 * a + 2) g

  module _ (h : 4 * a + 3 < length w) where
    p-long : 4 * a + 3 < length with-p
    p-long = simp length-set h

    l-long : 4 * a + 3 < length with-l
    l-long = simp length-set h

    g-long : 4 * a + 3 < length with-g
    g-long = simp length-set h

    filled_at : (c j : ℕ) → leb j 3 ≡ true → of_cell (cell_filled w a p l g n) c j ≡ cond (eqb a c) (pick j p l g n) (of_cell w c j)
    unfolding cell_filled
    filled_at c zero t =
        slot-set with-g a 3 n c 0 refl refl g-long
        ∙ slot-set with-l a 2 g c 0 refl refl l-long
        ∙ slot-set with-p a 1 l c 0 refl refl p-long
        ∙ slot-set w a 0 p c 0 refl refl h
    filled_at c (suc zero) t =
        slot-set with-g a 3 n c 1 refl refl g-long
        ∙ slot-set with-l a 2 g c 1 refl refl l-long
        ∙ slot-set with-p a 1 l c 1 refl refl p-long
        ∙ rw (slot-set w a 0 p c 1 refl refl h)
    filled_at c (suc (suc zero)) t =
        slot-set with-g a 3 n c 2 refl refl g-long
        ∙ slot-set with-l a 2 g c 2 refl refl l-long
        ∙ rw (slot-set with-p a 1 l c 2 refl refl p-long, slot-set w a 0 p c 2 refl refl h)
    filled_at c (suc (suc (suc zero))) t =
        slot-set with-g a 3 n c 3 refl refl g-long
        ∙ rw (slot-set with-l a 2 g c 3 refl refl l-long, slot-set with-p a 1 l c 3 refl refl p-long, slot-set w a 0 p c 3 refl refl h)
    filled_at c (suc (suc (suc (suc j)))) t = absurd (omega (arith, leb-true (suc (suc (suc (suc j)))) 3 t))

module _ (w : List ℕ) (p l g n : ℕ → ℕ) where
  pub filling-start : Filling w p l g n 0 w
  filling-start = record { same_length = refl; at = below_none _; kept = λ k h. refl }

  pub filling-turn : (i : ℕ) (work work' : List ℕ) → 4 * i + 3 < length w → Filling w p l g n i work → work' ≡ cell_filled work i (p i) (l i) (g i) (n i)
      → Filling w p l g n (i + 1) work'
  filling-turn i work work' h s e =
      let long : 4 * i + 3 < length work = rw s.same_length h in
      rw e (record {
        same_length = length-filled work i (p i) (l i) (g i) (n i) ∙ s.same_length;
        at = below_more (λ c. (j : ℕ) → leb j 3 ≡ true → of_cell (cell_filled work i (p i) (l i) (g i) (n i)) c j ≡ pick j (p c) (l c) (g c) (n c)) i
            (λ c m j t. filled_at work i (p i) (l i) (g i) (n i) long c j t ∙ rw (ne_eqb i c (λ (d : i ≡ c). omega arith)) (s.at c m j t))
            (λ j t. filled_at work i (p i) (l i) (g i) (n i) long i j t ∙ rw (eq-eqb i i refl));
        kept = λ k m. filled-kept work i (p i) (l i) (g i) (n i) k m ∙ s.kept k (omega arith);
      })
