-- The layout of a store: a list of fields written as entries reads back, and a store that holds its count is what it reads as, written.
use Prim.Native.Nat.{ℕ, zero, suc, ◌+◌, ◌*◌, ◌≤◌}
use mathlib.Core.Path.{◌≡◌, refl, sym, ap, ◌∙◌}
use mathlib.Core.List.{List, [], ◌∷◌, ◌++◌, append_assoc}
use native.Mathlib.Nat.{suc-mul, zero-mul}
use native.Mathlib.Numerals.{add-one}
use native.Mathlib.Omega.{arith}
use lib.ListN.{length, take, drop, length-append, length-drop, take-append-drop}
use lib.Seq.{take_at, drop_at, drop-drop, length-take-le}
use Rattle.store_kept.specs.Store.{Kept, count, fields_from, fields_in, used, entries_of, store_of}

module _ (cells : ℕ) where
  -- each field has as many masses as there are cells
  abbrev pub Sized : List Kept → Type 0
  Sized [] = Unit {0}
  Sized (f ∷ fs) = (length f.masses ≡ cells) × Sized fs

  pub sized-append : (fs gs : List Kept) → Sized fs → Sized gs → Sized (fs ++ gs)
  sized-append [] gs s t = t
  sized-append (f ∷ fs) gs s t = (s.0, sized-append fs gs s.1 t)

  pub sized-parts : (fs gs : List Kept) → Sized (fs ++ gs) → Sized fs × Sized gs
  sized-parts [] gs s = (tt, s)
  sized-parts (f ∷ fs) gs s = let p = sized-parts fs gs s.1 in ((s.0, p.0), p.1)

  pub entries-length : (fs : List Kept) → Sized fs → length (entries_of fs) ≡ length fs * (cells + 1)
  unfolding entries_of
  entries-length [] s = sym (zero-mul (cells + 1))
  entries-length (f ∷ fs) s = simp length-append (omega (arith, suc-mul (length fs) (cells + 1), entries-length fs s.1, s.0))

  pub store_length : (fs : List Kept) → Sized fs → length (store_of fs) ≡ used cells (length fs)
  unfolding store_of
  store_length fs s = omega (arith, entries-length fs s)

  pub fields-length : (n : ℕ) (t : List ℕ) → length (fields_from cells n t) ≡ n
  unfolding fields_from
  fields-length zero t = refl
  fields-length (suc n) t = ap suc (fields-length n (drop (cells + 1) t))

  -- a field and those after it, as entries
  one_more : (n : ℕ) (x : ℕ) (t : List ℕ) → suc n * (cells + 1) ≤ length (x ∷ t) → (cells ≤ length t) × (n * (cells + 1) ≤ length (drop cells t))
  one_more n x t l = let p : n * (cells + 1) + (cells + 1) ≤ suc (length t) = rw suc-mul at l in (omega arith, rw (length-drop cells t) (omega arith))

  pub fields-sized : (n : ℕ) (t : List ℕ) → n * (cells + 1) ≤ length t → Sized (fields_from cells n t)
  unfolding fields_from
  fields-sized zero t l = tt
  fields-sized (suc n) [] l = let p : n * (cells + 1) + (cells + 1) ≤ 0 = rw suc-mul at l in absurd (omega arith)
  fields-sized (suc n) (x ∷ t) l = let p = one_more n x t l in (length-take-le cells t p.0, rw (add-one cells) (fields-sized n (drop cells t) p.1))

  -- entries read as fields, and written again
  pub entries-back : (n : ℕ) (t : List ℕ) → n * (cells + 1) ≤ length t → entries_of (fields_from cells n t) ++ drop (n * (cells + 1)) t ≡ t
  unfolding fields_from entries_of
  entries-back zero t l = rw (zero-mul (cells + 1))
  entries-back (suc n) [] l = let p : n * (cells + 1) + (cells + 1) ≤ 0 = rw suc-mul at l in absurd (omega arith)
  entries-back (suc n) (x ∷ t) l =
      let p = one_more n x t l in
      let q : suc n * (cells + 1) ≡ suc (cells + n * (cells + 1)) = omega (arith, suc-mul n (cells + 1)) in
      let one : drop (cells + 1) (x ∷ t) ≡ drop cells t = ap (λ (j : ℕ). drop j (x ∷ t)) (add-one cells) in
      let all : drop (suc n * (cells + 1)) (x ∷ t) ≡ drop (n * (cells + 1)) (drop cells t) = ap (λ (j : ℕ). drop j (x ∷ t)) q
      ∙ sym (drop-drop (n * (cells + 1)) cells t) in
      rw (one, all)
      (ap (λ (u : List ℕ). x ∷ u)
      (append_assoc (take cells t) (entries_of (fields_from cells n (drop cells t))) (drop (n * (cells + 1)) (drop cells t))
      ∙ ap (λ (u : List ℕ). take cells t ++ u) (entries-back n (drop cells t) p.1) ∙ take-append-drop cells t))

  -- fields written as entries, and read
  pub fields_back : (fs : List Kept) (rest : List ℕ) → Sized fs → fields_from cells (length fs) (entries_of fs ++ rest) ≡ fs
  unfolding fields_from entries_of
  fields_back [] rest s = refl
  fields_back (f ∷ fs) rest s =
      rw (
        add-one cells,
        append_assoc f.masses (entries_of fs) rest,
        take_at f.masses (entries_of fs ++ rest) cells s.0,
        drop_at f.masses (entries_of fs ++ rest) cells s.0,
      )
      (ap (λ (gs : List Kept). f ∷ gs) (fields_back fs rest s.1))

  -- a store written and read
  pub store-read : (fs : List Kept) (rest : List ℕ) → Sized fs → fields_in cells (store_of fs ++ rest) ≡ fs
  unfolding fields_in store_of
  store-read fs rest s = fields_back fs rest s

  -- a store that holds its count
  module _ (store : List ℕ) (l : used cells (count store) ≤ length store) where
    pub in-length : length (fields_in cells store) ≡ count store
    unfolding fields_in
    in-length = fields-length (count store) (drop 1 store)

    pub in-sized : Sized (fields_in cells store)
    unfolding fields_in
    in-sized = fields-sized (count store) (drop 1 store) (rw (length-drop 1 store) (omega arith))

  -- is what it reads as, written, and what stands past the used part
  pub store_split : (store : List ℕ) → used cells (count store) ≤ length store → store ≡ store_of (fields_in cells store) ++ drop (used cells (count store)) store
  unfolding fields_in store_of
  store_split [] l = absurd (omega arith)
  store_split (x ∷ t) l =
      let q : used cells x ≡ suc (x * (cells + 1)) = omega arith in
      let d : drop (used cells x) (x ∷ t) ≡ drop (x * (cells + 1)) t = ap (λ (j : ℕ). drop j (x ∷ t)) q in
      rw (fields-length x t, d) (ap (λ (u : List ℕ). x ∷ u) (sym (entries-back x t (omega arith))))

-- entries of two lists of fields
pub entries-append : (fs gs : List Kept) → entries_of (fs ++ gs) ≡ entries_of fs ++ entries_of gs
unfolding entries_of
entries-append [] gs = refl
entries-append (f ∷ fs) gs = rw (entries-append fs gs, append_assoc f.masses (entries_of fs) (entries_of gs))
