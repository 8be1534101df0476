-- What the routines leave, over the front of a list and of a store.
use Prim.Native.Nat.{ℕ, suc, ◌+◌, ◌-◌, ◌≤◌, ◌<◌}
use mathlib.Core.Path.{◌≡◌, refl, sym, ap, ◌∙◌}
use mathlib.Core.Bool.{Bool, true, false}
use mathlib.Core.List.{List, [], ◌∷◌, ◌++◌, append_assoc, append-nil}
use native.Mathlib.Omega.{arith}
use lib.Dec.{leb}
use lib.ListN.{length, get_or, take, drop, set, replicate, drop_of_length-le, length-append, length-take, length-drop, length-replicate, get_or-replicate, get_or-append, get_or-eq_default}
use lib.Seq.{take_at, drop_at, drop-append-add, get_or-append-add, take_all, take-length, drop-length, get_or-drop}
use Rattle.lists.specs.Table.{table, over}
use Rattle.lists.proofs.Tables.{is-table, length-table, over-table}
use Rattle.lists.proofs.Tests.{Fits, fits, exceeds, fits?}
use Rattle.store_kept.specs.Store.{count, fields_in, used, entries_of, store_of}
use Rattle.store_entries.specs.Moved.{moved_down}
use Rattle.store_kept.proofs.Laid.{in-length, in-sized, store_length, store_split, entries-append}

-- a list written over the front of another, both of two parts
pub over-append : {A : Type 0} (x y x' t : List A) → length x' ≡ length x → over (x ++ y) (x' ++ t) ≡ x ++ over y t
unfolding over
over-append x y x' t e = rw (append_assoc x y (drop (length (x ++ y)) (x' ++ t)), length-append x y, ← e, drop-append-add x' t (length y))

pub over-front : {A : Type 0} (x y t : List A) → length x ≡ length y → over x (y ++ t) ≡ x ++ t
unfolding over
over-front x y t e = rw (e, drop_at y t (length y) refl)

pub over-length : {A : Type 0} (x t : List A) → length x ≤ length t → length (over x t) ≡ length t
unfolding over
over-length x t l = simp (length-append, length-drop) (omega arith)

-- one list over another that is itself written over a third, and is no longer
pub over-over : {A : Type 0} (x y t : List A) → length x ≡ length y → over x (over y t) ≡ over x t
unfolding over
over-over x y t e = rw (e, drop_at y (drop (length y) t) (length y) refl)

-- past the list that is written over its front, a list is as it was
pub over-past : {A : Type 0} (i : ℕ) (f : ℕ → A) (t : List A) (d : A) (k : ℕ) → i ≤ k → i ≤ length t → get_or (over (table i f) t) k d ≡ get_or t k d
over-past i f t d k h l =
    let q : k ≡ i + (k - i) = omega arith in
    rw (over-table i f t) (ap (λ (j : ℕ). get_or (table i f ++ drop i t) j d) (q ∙ ap (λ (j : ℕ). j + (k - i)) (sym (length-table i f)))
    ∙ get_or-append-add (table i f) (drop i t) (k - i) d ∙ get_or-drop i t (k - i) d ∙ ap (λ (j : ℕ). get_or t j d) (sym q))

-- a part of n entries has room after the name
pub room_after : (n : ℕ) (m p : List ℕ) → n < length p → length (take n m) ≤ length (take (length p - 1) (drop 1 p))
room_after n m p h = rw (length-take, length-take, length-drop) (omega arith)

-- a gap of w entries closed, and as many cleared at the end
pub moved-down : (w : ℕ) (a b : List ℕ) → length a ≡ w → moved_down w (a ++ b) ≡ b ++ replicate w 0
unfolding moved_down
moved-down w a b e = sym (is-table 0 (b ++ replicate w 0) (length (a ++ b)) (λ i. get_or (a ++ b) (w + i) 0) long entry)
  where
    long : length (b ++ replicate w 0) ≡ length (a ++ b)
    long = simp (length-append, length-replicate) (omega arith)

    entry : (k : ℕ) → k < length (a ++ b) → get_or (b ++ replicate w 0) k 0 ≡ get_or (a ++ b) (w + k) 0
    entry k h = go (leb (suc k) (length b)) (fits? (suc k) (length b)) ∙ sym (rw (← e) (get_or-append-add a b k 0))
      where
        go : (t : Bool) → Fits (suc k) (length b) t → get_or (b ++ replicate w 0) k 0 ≡ get_or b k 0
        go true (fits l) = get_or-append b (replicate w 0) 0 k l
        go false (exceeds l) =
            let q : k ≡ length b + (k - length b) = omega arith in
            let m : k - length b < w = omega (arith, length-append a b) in
            ap (λ (j : ℕ). get_or (b ++ replicate w 0) j 0) q ∙ get_or-append-add b (replicate w 0) (k - length b) 0 ∙ get_or-replicate w (k - length b) 0 0 m
            ∙ sym (get_or-eq_default b 0 (omega arith))

-- what the routines leave: a field at the front of a part,
pub field_written : (name : ℕ) (m p : List ℕ) → 1 ≤ length p
    → set (take 1 p ++ (over m (take (length p - 1) (drop 1 p)) ++ drop (length p - 1) (drop 1 p))) 0 name ≡ over (name ∷ m) p
unfolding over
field_written name m [] l = absurd (omega arith)
field_written name m (x ∷ t) l =
    let q : length (x ∷ t) - 1 ≡ length t = omega arith in
    rw (q, take-length t, drop-length t) (ap (λ (u : List ℕ). name ∷ u) (append-nil (m ++ drop (length m) t)))

-- a field after all others,
whole_part : (at : ℕ) (s : List ℕ) → (take (length s - at) (drop at s) ≡ drop at s) × (drop (length s - at) (drop at s) ≡ [])
whole_part at s =
    let l : length (drop at s) ≤ length s - at = omega (arith, length-drop at s) in
    (take_all (length s - at) (drop at s) l, drop_of_length-le (drop at s) l)

pub put_written : (cells name : ℕ) (m s : List ℕ) → used cells (count s) ≤ length s
    → set (take (used cells (count s)) s ++ (over (name ∷ m) (take (length s - used cells (count s)) (drop (used cells (count s)) s))
    ++ drop (length s - used cells (count s)) (drop (used cells (count s)) s))) 0 (count s + 1)
    ≡ over (store_of (fields_in cells s ++ (record { name = name; masses = m } ∷ []))) s
unfolding store_of entries_of
put_written cells name m s l =
    let at = used cells (count s) in
    let fs = fields_in cells s in
    let rest = drop at s in
    let n : length (store_of fs) ≡ at = store_length cells fs (in-sized cells s l) ∙ ap (used cells) (in-length cells s l) in
    let whole : s ≡ store_of fs ++ rest = store_split cells s l in
    let front : take at s ≡ store_of fs = ap (take at) whole ∙ take_at (store_of fs) rest at n in
    let more : length (fs ++ (record { name = name; masses = m } ∷ [])) ≡ count s + 1 = length-append fs (record { name = name; masses = m } ∷ [])
    ∙ omega (arith, in-length cells s l) in
    let w = whole_part at s in
    rw (w.0, w.1, append-nil (over (name ∷ m) rest), front, more, entries-append fs (record { name = name; masses = m } ∷ []), append-nil m)
    (sym (ap (over (((count s + 1) ∷ entries_of fs) ++ (name ∷ m))) whole ∙ over-append ((count s + 1) ∷ entries_of fs) (name ∷ m) (store_of fs) rest refl))

-- and the others after one has gone
pub dropped : (x v : ℕ) (a b c r s : List ℕ) (at end w : ℕ) → s ≡ (x ∷ a) ++ ((b ++ c) ++ r) → length (x ∷ a) ≡ at → at + length (b ++ c) ≡ end → length b ≡ w
    → set (take at s ++ (moved_down w (take (end - at) (drop at s)) ++ drop (end - at) (drop at s))) 0 v ≡ over ((v ∷ a) ++ (c ++ replicate w 0)) s
dropped x v a b c r s at end w e la le lb =
    let front : take at s ≡ x ∷ a = ap (take at) e ∙ take_at (x ∷ a) ((b ++ c) ++ r) at la in
    let back : drop at s ≡ (b ++ c) ++ r = ap (drop at) e ∙ drop_at (x ∷ a) ((b ++ c) ++ r) at la in
    let n : length (b ++ c) ≡ end - at = omega arith in
    let z : length (c ++ replicate w 0) ≡ length (b ++ c) = simp (length-append, length-replicate) (omega arith) in
    rw (front, back, take_at (b ++ c) r (end - at) n, drop_at (b ++ c) r (end - at) n, moved-down w b c lb)
    (sym (ap (over ((v ∷ a) ++ (c ++ replicate w 0))) e ∙ over-append (v ∷ a) (c ++ replicate w 0) (x ∷ a) ((b ++ c) ++ r) refl
    ∙ ap (λ (u : List ℕ). (v ∷ a) ++ u) (over-front (c ++ replicate w 0) (b ++ c) r z)))
