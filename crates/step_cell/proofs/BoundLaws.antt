-- Entries of work after two cells have met across a face.
use Prim.Native.Nat.{ℕ, zero, suc, ◌+◌, ◌*◌, ◌<◌, min, max}
use mathlib.Core.Path.{◌≡◌, refl, sym, ◌∙◌}
use mathlib.Core.Logic.{◌≢◌}
use mathlib.Core.Bool.{Bool, true, false, cond}
use mathlib.Core.List.{List}
use borrow.Author.Tests.{eq-eqb, ne_eqb}
use lib.Dec.{eqb}
use lib.IntN.{ℤ}
use lib.ListN.{length, get_or, set, length-set}
use Rattle.signed.specs.Sign.{is_zero, is_negative, with_sign}
use Rattle.lists.proofs.Tests.{Same, same, other, same?}
use Rattle.model.specs.Mesh.{rim}
use Rattle.step_cell.specs.Work.{of_cell, of_face, widened, widened_across}
use Rattle.step_cell.proofs.Slots.{slot-set, slot-face}

pub length-widened : (w : List ℕ) (a q : ℕ) → length (widened w a q) ≡ length w
unfolding widened
length-widened w a q = simp length-set

-- what a cell has met stands in its own entries 1 and 2; concentrations and the faces' entries stay
module _ (w : List ℕ) (a q c : ℕ) (h : 4 * a + 3 < length w) where
  abbrev first-set : List ℕ
  first-set = set w (4 * a + 1) (min (of_cell w a 1) q)

  long : 4 * a + 3 < length first-set
  long = simp length-set h

  pub widened-q : of_cell (widened w a q) c 0 ≡ of_cell w c 0
  unfolding widened
  widened-q = slot-set first-set a 2 (max (of_cell w a 2) q) c 0 refl refl long ∙ slot-set w a 1 (min (of_cell w a 1) q) c 0 refl refl h

  pub widened-lo : of_cell (widened w a q) c 1 ≡ cond (eqb a c) (min (of_cell w c 1) q) (of_cell w c 1)
  unfolding widened
  widened-lo = slot-set first-set a 2 (max (of_cell w a 2) q) c 1 refl refl long ∙ slot-set w a 1 (min (of_cell w a 1) q) c 1 refl refl h
      ∙ go (eqb a c) (same? a c)
    where
      go : (b : Bool) → Same a c b → cond b (min (of_cell w a 1) q) (of_cell w c 1) ≡ cond b (min (of_cell w c 1) q) (of_cell w c 1)
      go true (same e) = rw e
      go false o = refl

  pub widened-hi : of_cell (widened w a q) c 2 ≡ cond (eqb a c) (max (of_cell w c 2) q) (of_cell w c 2)
  unfolding widened
  widened-hi = slot-set first-set a 2 (max (of_cell w a 2) q) c 2 refl refl long
      ∙ rw (slot-set w a 1 (min (of_cell w a 1) q) c 2 refl refl h) (go (eqb a c) (same? a c))
    where
      go : (b : Bool) → Same a c b → cond b (max (of_cell w a 2) q) (of_cell w c 2) ≡ cond b (max (of_cell w c 2) q) (of_cell w c 2)
      go true (same e) = rw e
      go false o = refl

pub widened-face : (w : List ℕ) (a q cells f : ℕ) → a < cells → of_face (widened w a q) cells f ≡ of_face w cells f
unfolding widened
widened-face w a q cells f h =
    slot-face (set w (4 * a + 1) (min (of_cell w a 1) q)) a 2 (max (of_cell w a 2) q) cells f refl h
    ∙ slot-face w a 1 (min (of_cell w a 1) q) cells f refl h

-- a still face, a face inside, an inflow and an outflow over the rim
module _ (w : List ℕ) (l k a b : ℕ) where
  pub across-still : (p : Bool) → widened_across w l k (with_sign p 0) a b ≡ w
  unfolding widened_across
  across-still false = refl
  across-still true = refl

  pub across-inside : (p : Bool) (n : ℕ) → n ≢ 0 → k ≢ rim → widened_across w l k (with_sign p n) a b ≡ widened (widened w l b) k a
  unfolding widened_across
  across-inside p zero h d = absurd (h refl)
  across-inside false (suc n) h d = rw (ne_eqb k rim d)
  across-inside true (suc n) h d = rw (ne_eqb k rim d)

  pub across-in : (n : ℕ) → n ≢ 0 → k ≡ rim → widened_across w l k (with_sign true n) a b ≡ widened w l b
  unfolding widened_across
  across-in zero h d = absurd (h refl)
  across-in (suc n) h d = rw (eq-eqb k rim d)

  pub across-out : (n : ℕ) → k ≡ rim → widened_across w l k (with_sign false n) a b ≡ w
  unfolding widened_across
  across-out zero d = refl
  across-out (suc n) d = rw (eq-eqb k rim d)

  pub length-across : (z : ℤ) → length (widened_across w l k z a b) ≡ length w
  unfolding widened_across
  length-across z = go (is_zero z) (eqb k rim) (is_negative z)
    where
      go : (i j n : Bool) → length (cond i w (cond j (cond n (widened w l b) w) (widened (widened w l b) k a))) ≡ length w
      go true j n = refl
      go false true true = length-widened w l b
      go false true false = refl
      go false false n = length-widened (widened w l b) k a ∙ length-widened w l b

  -- an entry that neither cell's meeting touches
  across-kept : (z : ℤ) (i : ℕ) → get_or (widened w l b) i 0 ≡ get_or w i 0 → (k ≢ rim → get_or (widened (widened w l b) k a) i 0 ≡ get_or (widened w l b) i 0)
      → get_or (widened_across w l k z a b) i 0 ≡ get_or w i 0
  unfolding widened_across
  across-kept z i at-l at-k = go (is_zero z) (eqb k rim) (same? k rim) (is_negative z)
    where
      go : (y j : Bool) → Same k rim j → (t : Bool) → get_or (cond y w (cond j (cond t (widened w l b) w) (widened (widened w l b) k a))) i 0 ≡ get_or w i 0
      go true j s t = refl
      go false true s true = at-l
      go false true s false = refl
      go false false (other d) t = at-k d ∙ at-l

  pub across-face : (z : ℤ) (cells f : ℕ) → l < cells → (k ≢ rim → k < cells) → of_face (widened_across w l k z a b) cells f ≡ of_face w cells f
  across-face z cells f h m = across-kept z (4 * cells + f) (widened-face w l b cells f h) (λ d. widened-face (widened w l b) k a cells f (m d))

-- how a cell's own entry goes: v is the entry, m the least or the greatest of two
abbrev met : (ℕ → ℕ → ℕ) → ℕ → ℕ → ℕ → ℤ → ℕ → ℕ → ℕ → ℕ
met m v l k z a b c =
    cond (is_zero z) v (cond (eqb k rim) (cond (is_negative z) (cond (eqb l c) (m v b) v) v)
    (cond (eqb k c) (m (cond (eqb l c) (m v b) v) a) (cond (eqb l c) (m v b) v)))

module _ (w : List ℕ) (l k : ℕ) (z : ℤ) (a b c : ℕ) (in-l : 4 * l + 3 < length w) (in-k : k ≢ rim → 4 * k + 3 < length w) where
  in-second : k ≢ rim → 4 * k + 3 < length (widened w l b)
  in-second d = rw (length-widened w l b) (in-k d)

  pub across-q : of_cell (widened_across w l k z a b) c 0 ≡ of_cell w c 0
  across-q = across-kept w l k a b z (4 * c + 0) (widened-q w l b c in-l) (λ d. widened-q (widened w l b) k a c (in-second d))

  -- entry j of a cell, where one meeting brings m of it and what is met
  across-at : (j : ℕ) (m : ℕ → ℕ → ℕ)
      → ((v : List ℕ) (e q : ℕ) → 4 * e + 3 < length v → of_cell (widened v e q) c j ≡ cond (eqb e c) (m (of_cell v c j) q) (of_cell v c j))
      → of_cell (widened_across w l k z a b) c j ≡ met m (of_cell w c j) l k z a b c
  unfolding widened_across
  across-at j m one = go (is_zero z) (eqb k rim) (same? k rim) (is_negative z)
    where
      go : (y r : Bool) → Same k rim r → (t : Bool) → of_cell (cond y w (cond r (cond t (widened w l b) w) (widened (widened w l b) k a))) c j
          ≡ cond y (of_cell w c j) (cond r (cond t (cond (eqb l c) (m (of_cell w c j) b) (of_cell w c j)) (of_cell w c j))
          (cond (eqb k c) (m (cond (eqb l c) (m (of_cell w c j) b) (of_cell w c j)) a) (cond (eqb l c) (m (of_cell w c j) b) (of_cell w c j))))
      go true r s t = refl
      go false true s true = one w l b in-l
      go false true s false = refl
      go false false (other d) t = one (widened w l b) k a (in-second d) ∙ rw (one w l b in-l)

  pub across-lo : of_cell (widened_across w l k z a b) c 1 ≡ met min (of_cell w c 1) l k z a b c
  across-lo = across-at 1 min (λ v e q h. widened-lo v e q c h)

  pub across-hi : of_cell (widened_across w l k z a b) c 2 ≡ met max (of_cell w c 2) l k z a b c
  across-hi = across-at 2 max (λ v e q h. widened-hi v e q c h)

-- what a cell's entry comes to is what it meets at the face, with m over what it had
pub across-adjacent : (m : ℕ → ℕ → ℕ) (v : ℕ) (z : ℤ) (l k c o : ℕ) (q : ℕ → ℕ) → m v (q c) ≡ v → l ≢ k → c ≢ rim
    → met m v l k z (q l) (cond (eqb k rim) o (q k)) c
    ≡ m v (cond (is_zero z) (q c) (cond (eqb l c) (cond (eqb k rim) (cond (is_negative z) o (q c)) (q k)) (cond (eqb k c) (q l) (q c))))
across-adjacent m v z l k c o q e d n = go (is_zero z) (eqb k rim) (same? k rim) (is_negative z) (eqb l c) (same? l c) (eqb k c) (same? k c)
  where
    go : (y j : Bool) → Same k rim j → (t s : Bool) → Same l c s → (r : Bool) → Same k c r
        → cond y v (cond j (cond t (cond s (m v (cond j o (q k))) v) v) (cond r (m (cond s (m v (cond j o (q k))) v) (q l)) (cond s (m v (cond j o (q k))) v)))
        ≡ m v (cond y (q c) (cond s (cond j (cond t o (q c)) (q k)) (cond r (q l) (q c))))
    go true j jj t s ss r rr = sym e
    go false true jj true true ss r rr = refl
    go false true (same f) t false ss true (same g) = absurd (n (sym g ∙ f))
    go false true jj true false ss false rr = sym e
    go false true jj false true ss r rr = sym e
    go false true jj false false ss false rr = sym e
    go false false jj t true (same f) true (same g) = absurd (d (f ∙ sym g))
    go false false jj t true ss false rr = refl
    go false false jj t false ss true rr = refl
    go false false jj t false ss false rr = sym e
