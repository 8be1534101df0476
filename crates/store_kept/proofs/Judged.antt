-- What the tests of a store come to, what a passed test gives, and where the field of a kept name stands.
use Prim.Native.Nat.{ℕ, suc, ◌+◌, ◌-◌, ◌≤◌, ◌<◌}
use mathlib.Core.Path.{◌≡◌, refl, sym, ap, ◌∙◌}
use mathlib.Core.Bool.{Bool, true, false, not}
use mathlib.Core.List.{List, ◌∷◌, ◌++◌, append_assoc}
use native.Mathlib.Nat.{suc-mul}
use native.Mathlib.Omega.{arith}
use borrow.Author.Tests.{leb-true, le-leb, ltb-true, lt-ltb, le-ltb}
use lib.Dec.{eqb, leb, ltb}
use lib.ListN.{length, take, drop}
use lib.Seq.{take_at, drop_at, drop-drop}
use Rattle.lists.proofs.Tests.{Fits, fits, exceeds, fits?, both_true}
use Rattle.model.specs.Causes.{fine, ◌and_then◌}
use Rattle.model.proofs.Verdicts.{both-fine, need-fine, need-met}
use Rattle.store_kept.specs.Store.{Kept, count, fields_in, used, entries_of, store_of, is_kept, held_under}
use Rattle.store_kept.specs.Found.{fields_before}
use Rattle.store_kept.specs.Tests.{name_fits, count_good, name_kept}
use Rattle.store_kept.proofs.Laid.{sized-parts, Sized, entries-length, entries-append, in-length, in-sized, store_split}
use Rattle.store_kept.proofs.Named.{Found, found, kept-before, new-before, used-more}

pub count-counted : (cells : ℕ) (store : List ℕ) → count_good cells store ≡ fine → used cells (count store) ≤ length store
unfolding count_good
count-counted cells store e = leb-true _ _ (need-fine 13 1 _ e)

pub counted-good : (cells : ℕ) (store : List ℕ) → used cells (count store) ≤ length store → count_good cells store ≡ fine
unfolding count_good
counted-good cells store l = need-met 13 1 (le-leb _ _ l)

module _ (cells : ℕ) (store : List ℕ) (name : ℕ) where
  abbrev fs : List Kept
  fs = fields_in cells store

  -- the tests of names and of the room left
  pub new-test : used cells (count store) ≤ length store → (b : ℕ) → b ≡ fields_before name fs → eqb b (count store) ≡ not (is_kept name fs)
  new-test l b e = ap (λ (j : ℕ). eqb j (count store)) e ∙ ap (eqb (fields_before name fs)) (sym (in-length cells store l)) ∙ sym (new-before name fs)

  pub kept_test : used cells (count store) ≤ length store → (b : ℕ) → b ≡ fields_before name fs → ltb b (count store) ≡ is_kept name fs
  kept_test l b e = ap (λ (j : ℕ). ltb j (count store)) e ∙ ap (ltb (fields_before name fs)) (sym (in-length cells store l)) ∙ sym (kept-before name fs)

  pub room-test : used cells (count store) ≤ length store → (u : ℕ) → u ≡ used cells (count store) → ltb cells (length store - u)
      ≡ leb (used cells (suc (count store))) (length store)
  room-test l u e = go (leb (used cells (suc (count store))) (length store)) (fits? (used cells (suc (count store))) (length store))
    where
      go : (b : Bool) → Fits (used cells (suc (count store))) (length store) b → ltb cells (length store - u) ≡ b
      go true (fits m) = lt-ltb cells (length store - u) (omega (arith, suc-mul (count store) (cells + 1)))
      go false (exceeds m) = le-ltb cells (length store - u) (omega (arith, suc-mul (count store) (cells + 1)))

  -- what 13 and 17 give
  pub kept-asks : (count_good cells store and_then name_kept cells store name) ≡ fine → (used cells (count store) ≤ length store) × (is_kept name fs ≡ true)
  unfolding name_kept
  kept-asks e =
      let p = both-fine _ _ e in
      (count-counted cells store p.0, (both_true (name_fits name) _ (need-fine 17 name _ p.1)).1)

  -- the field of a kept name
  module _ (l : used cells (count store) ≤ length store) (k : is_kept name fs ≡ true) where
    pub meant-found : Found name fs
    meant-found = found name fs k

    abbrev earlier : List ℕ
    earlier = entries_of meant-found.earlier

    abbrev later : List ℕ
    later = entries_of meant-found.later

    abbrev itself : List ℕ
    itself = meant-found.meant.name ∷ meant-found.meant.masses

    abbrev rest : List ℕ
    rest = drop (used cells (count store)) store

    pub sized : Sized cells meant-found.earlier × Sized cells (meant-found.meant ∷ meant-found.later)
    sized = sized-parts cells meant-found.earlier (meant-found.meant ∷ meant-found.later) (rw meant-found.all at (in-sized cells store l))

    pub parts : store ≡ (count store ∷ earlier) ++ ((itself ++ later) ++ rest)
    unfolding store_of entries_of
    parts =
        let head : store_of fs ≡ (count store ∷ earlier) ++ (itself ++ later)
        = ap (λ (j : ℕ). j ∷ entries_of fs) (in-length cells store l)
        ∙ ap (λ (u : List ℕ). count store ∷ u) (ap entries_of meant-found.all
        ∙ entries-append meant-found.earlier (meant-found.meant ∷ meant-found.later)) in
        store_split cells store l ∙ ap (λ (u : List ℕ). u ++ rest) head ∙ append_assoc (count store ∷ earlier) (itself ++ later) rest

    pub place : length (count store ∷ earlier) ≡ used cells (fields_before name fs)
    place =
        let n : length (count store ∷ earlier) ≡ used cells (length meant-found.earlier) =
        omega (arith, entries-length cells meant-found.earlier sized.0) in
        n ∙ ap (used cells) meant-found.at

    pub kept_less : fields_before name fs < count store
    kept_less = ltb-true (fields_before name fs) (count store) (kept_test l (fields_before name fs) refl ∙ k)

    pub kept-within : used cells (fields_before name fs) + (cells + 1) ≤ used cells (count store)
    kept-within = used-more cells (fields_before name fs) (count store) kept_less

    pub held_at : take cells (drop (used cells (fields_before name fs) + 1) store) ≡ held_under name fs
    held_at =
        let here : drop (used cells (fields_before name fs)) store ≡ (itself ++ later) ++ rest
        = ap (drop (used cells (fields_before name fs))) parts
        ∙ drop_at (count store ∷ earlier) ((itself ++ later) ++ rest) (used cells (fields_before name fs)) place in
        let m = meant-found.meant.masses in
        ap (take cells) (sym (drop-drop 1 (used cells (fields_before name fs)) store) ∙ ap (drop 1) here)
        ∙ ap (take cells) (append_assoc m later rest) ∙ take_at m (later ++ rest) cells sized.1.0 ∙ sym meant-found.held
