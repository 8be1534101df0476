-- Names in a list of fields: the first that bears one, what is kept under it, and the others.
use Prim.Native.Nat.{ℕ, suc, ◌+◌, ◌-◌, ◌*◌, ◌/◌, ◌≤◌, ◌<◌}
use mathlib.Core.Path.{◌≡◌, refl, sym, ap, ◌∙◌}
use mathlib.Core.Logic.{◌≢◌}
use mathlib.Core.Bool.{Bool, true, false, not, cond, ◌||◌, true≢false}
use mathlib.Core.List.{List, [], ◌∷◌, ◌++◌}
use native.Mathlib.Nat.{suc-mul, mul-le-mul_right, le-div_iff_mul-le}
use native.Mathlib.Numerals.{add-one}
use native.Mathlib.Omega.{arith}
use borrow.Author.Tests.{le-leb, eq-eqb, ne_eqb}
use lib.Dec.{eqb, leb, ltb, leb-suc-suc}
use lib.ListN.{length, get_or, drop}
use lib.Seq.{drop-drop, get_or-drop}
use Rattle.lists.proofs.Tests.{Same, same, other, same?, Fits, fits, exceeds, fits?}
use Rattle.store_kept.specs.Store.{Kept, count, fields_from, fields_in, used, is_kept, held_under, without}
use Rattle.store_kept.specs.Found.{fields_before}

-- cause 13 without a product
pub count-test : (n w c : ℕ) → 1 ≤ n → 1 ≤ w → leb c ((n - 1) / w) ≡ leb (1 + c * w) n
count-test n w c h k = go (leb (1 + c * w) n) (fits? (1 + c * w) n)
  where
    go : (b : Bool) → Fits (1 + c * w) n b → leb c ((n - 1) / w) ≡ b
    go true (fits l) = le-leb c ((n - 1) / w) ((le-div_iff_mul-le {k = w} {x = c} {y = n - 1} k).1 (omega arith))
    go false (exceeds l) = go2 (leb c ((n - 1) / w)) (fits? c ((n - 1) / w))
      where
        go2 : (b : Bool) → Fits c ((n - 1) / w) b → b ≡ false
        go2 true (fits m) = absurd (omega (arith, (le-div_iff_mul-le {k = w} {x = c} {y = n - 1} k).0 m))
        go2 false (exceeds m) = refl

-- entries used by fewer fields
pub used-more : (cells i n : ℕ) → i < n → used cells i + (cells + 1) ≤ used cells n
used-more cells i n h = omega (arith, suc-mul i (cells + 1), mul-le-mul_right (cells + 1) h)

module _ (name : ℕ) where
  pub before-most : (fs : List Kept) → fields_before name fs ≤ length fs
  unfolding fields_before
  before-most [] = omega arith
  before-most (f ∷ fs) = go (eqb f.name name) (before-most fs)
    where
      go : (b : Bool) → fields_before name fs ≤ length fs → cond b 0 (suc (fields_before name fs)) ≤ suc (length fs)
      go true l = omega arith
      go false l = omega arith

  -- a name is kept where fewer fields than all stand before the first of it
  pub kept-before : (fs : List Kept) → is_kept name fs ≡ ltb (fields_before name fs) (length fs)
  unfolding is_kept fields_before
  kept-before [] = refl
  kept-before (f ∷ fs) = go (eqb f.name name) (kept-before fs)
    where
      go : (b : Bool) → is_kept name fs ≡ ltb (fields_before name fs) (length fs) → (b || is_kept name fs)
          ≡ ltb (cond b 0 (suc (fields_before name fs))) (suc (length fs))
      go true e = sym (le-leb 1 (suc (length fs)) (omega arith))
      go false e = e ∙ sym (leb-suc-suc (suc (fields_before name fs)) (length fs))

  pub new-before : (fs : List Kept) → not (is_kept name fs) ≡ eqb (fields_before name fs) (length fs)
  new-before fs = ap not (kept-before fs) ∙ go (leb (suc (fields_before name fs)) (length fs)) (fits? (suc (fields_before name fs)) (length fs))
    where
      go : (b : Bool) → Fits (suc (fields_before name fs)) (length fs) b → not b ≡ eqb (fields_before name fs) (length fs)
      go true (fits l) = sym (ne_eqb (fields_before name fs) (length fs) (λ e. absurd (omega arith)))
      go false (exceeds l) = sym (eq-eqb (fields_before name fs) (length fs) (omega (arith, before-most fs)))

  -- the fields before the first of a name, it, and those after it
  pub record Found (fs : List Kept) : Type 0 where
    pub earlier : List Kept
    pub meant : Kept
    pub later : List Kept
    pub all : fs ≡ earlier ++ (meant ∷ later)
    pub named : meant.name ≡ name
    pub first : is_kept name earlier ≡ false
    pub at : length earlier ≡ fields_before name fs
    pub held : held_under name fs ≡ meant.masses
    pub others : without name fs ≡ earlier ++ later

  pub found : (fs : List Kept) → is_kept name fs ≡ true → Found fs
  unfolding is_kept held_under without fields_before
  found [] e = absurd (true≢false (sym e))
  found (f ∷ fs) e = go (eqb f.name name) (same? f.name name) refl (found fs)
    where
      go : (b : Bool) → Same f.name name b → eqb f.name name ≡ b → (is_kept name fs ≡ true → Found fs) → Found (f ∷ fs)
      go true (same d) q ih = record { earlier = []; meant = f; later = fs; all = refl; named = d; first = refl; at = rw q; held = rw q; others = rw q }
      go false (other n) q ih =
          let p = ih (rw q at e) in
          record {
            earlier = f ∷ p.earlier;
            meant = p.meant;
            later = p.later;
            all = ap (λ (gs : List Kept). f ∷ gs) p.all;
            named = p.named;
            first = rw q p.first;
            at = rw q (ap suc p.at);
            held = rw q p.held;
            others = rw q (ap (λ (gs : List Kept). f ∷ gs) p.others);
          }

  -- a search for a name, field by field: after i fields without it
  module _ (cells : ℕ) (store : List ℕ) where
    abbrev pub Searched : ℕ → Type 0
    Searched i = fields_before name (fields_in cells store) ≡ i + fields_before name (fields_from cells (count store - i) (drop (used cells i) store))

    pub search-start : Searched 0
    unfolding fields_in
    search-start =
        let a : count store - 0 ≡ count store = omega arith in
        let b : used cells 0 ≡ 1 = omega arith in
        rw (a, b) (omega arith)

    next_field : (i : ℕ) → i < count store → fields_before name (fields_from cells (count store - i) (drop (used cells i) store))
        ≡ cond (eqb (get_or store (used cells i) 0) name) 0 (suc (fields_before name (fields_from cells (count store - (i + 1)) (drop (used cells (i + 1)) store))))
    unfolding fields_from fields_before
    next_field i h =
        let m : count store - i ≡ suc (count store - (i + 1)) = omega arith in
        let u : used cells i + (cells + 1) ≡ used cells (i + 1) = rw (add-one i, suc-mul i (cells + 1)) (omega arith) in
        let z : used cells i + 0 ≡ used cells i = omega arith in
        rw (m, get_or-drop (used cells i) store 0 0, drop-drop (cells + 1) (used cells i) store, u, z)

    pub search-on : (i : ℕ) → i < count store → get_or store (used cells i) 0 ≢ name → Searched i → Searched (i + 1)
    search-on i h n s = s ∙ rw (next_field i h, ne_eqb (get_or store (used cells i) 0) name n) (omega arith)

    pub search-hit : (i : ℕ) → i < count store → get_or store (used cells i) 0 ≡ name → Searched i → i ≡ fields_before name (fields_in cells store)
    search-hit i h e s = sym (s ∙ rw (next_field i h, eq-eqb (get_or store (used cells i) 0) name e) (omega arith))

    pub search-end : (i : ℕ) → count store ≤ i → Searched i → i ≡ fields_before name (fields_in cells store)
    unfolding fields_from fields_before
    search-end i h s = let z : count store - i ≡ 0 = omega arith in sym (s ∙ rw z (omega arith))
