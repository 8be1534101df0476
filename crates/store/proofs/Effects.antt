-- What keeping and dropping do to the list of fields that a store reads as.
use Prim.Native.Nat.{ℕ, suc, ◌+◌, ◌≤◌}
use mathlib.Core.Path.{◌≡◌, refl, sym, ap, ◌∙◌}
use mathlib.Core.Bool.{true, false, not}
use mathlib.Core.List.{List, [], ◌∷◌, ◌++◌, append_assoc, append-nil}
use native.Mathlib.Nat.{suc-mul}
use native.Mathlib.Omega.{arith}
use borrow.Author.Tests.{leb-true, le-leb, not-true}
use lib.ListN.{length, take, drop, replicate, length-append, length-replicate}
use lib.Seq.{length-take-le, take_at}
use Rattle.lists.specs.Table.{over}
use Rattle.lists.proofs.Tests.{both_true, true-both}
use Rattle.model.specs.Causes.{fine, ◌and_then◌, counts, cells_only, field_values}
use Rattle.model.proofs.Verdicts.{all-fine, need-fine, need-met}
use Rattle.model.proofs.Accepted.{field-lent}
use Rattle.store_kept.specs.Store.{Kept, kept_field, count, fields_in, used, store_of, is_kept, held_under, without}
use Rattle.store_kept.specs.Tests.{name_fits, name_new, room_left, name_kept}
use Rattle.store.specs.Calls.{store_table, drop_causes, drop_verdict, drop_store, lent_mesh, opened_causes, opened_verdict, keep_causes, keep_verdict, keep_store, return_causes, return_verdict}
use Rattle.store_kept.proofs.Laid.{Sized, sized-append, sized-parts, store_length, in-length, in-sized, store-read, store_split}
use Rattle.store_kept.proofs.Named.{Found, found}
use Rattle.store_kept.proofs.Judged.{count-counted, counted-good}
use Rattle.store_entries.proofs.Written.{over-length, over-over}
use Rattle.store.proofs.Named.{new-kept, new-without}

-- a list of fields written over a store that has the room, with anything after it
module _ (cells : ℕ) (fs : List Kept) (sized : Sized cells fs) (more store : List ℕ) (room : used cells (length fs) + length more ≤ length store) where
  pub written-fields : fields_in cells (over (store_of fs ++ more) store) ≡ fs
  unfolding over
  written-fields = ap (fields_in cells) (append_assoc (store_of fs) more (drop (length (store_of fs ++ more)) store))
      ∙ store-read cells fs (more ++ drop (length (store_of fs ++ more)) store) sized

  pub written-length : length (over (store_of fs ++ more) store) ≡ length store
  written-length = over-length (store_of fs ++ more) store (omega (arith, length-append (store_of fs) more, store_length cells fs sized))

  pub written_count : count (over (store_of fs ++ more) store) ≡ length fs
  unfolding over store_of
  written_count = refl

  pub written-counted : used cells (count (over (store_of fs ++ more) store)) ≤ length (over (store_of fs ++ more) store)
  written-counted = rw (written-length, written_count) (omega arith)

-- an accepted keep
module _ (cells : ℕ) (volumes masses store : List ℕ) (name : ℕ) (e : keep_verdict cells volumes masses store name ≡ fine) where
  pub opened-fine : opened_verdict cells volumes masses store ≡ fine
  unfolding keep_verdict
  opened-fine = (all-fine (keep_causes cells volumes masses store name) e).0

  pub keep-counted : used cells (count store) ≤ length store
  unfolding keep_verdict
  keep-counted = count-counted cells store (all-fine (keep_causes cells volumes masses store name) e).1.1.0

  new-parts : (name_fits name ≡ true) × (not (is_kept name (fields_in cells store)) ≡ true)
  unfolding keep_verdict name_new
  new-parts = both_true (name_fits name) _ (need-fine 15 name _ (all-fine (keep_causes cells volumes masses store name) e).1.1.1.0)

  pub keep-fits : name_fits name ≡ true
  keep-fits = new-parts.0

  pub keep-new : is_kept name (fields_in cells store) ≡ false
  keep-new = not-true _ new-parts.1

  pub keep-room : used cells (suc (count store)) ≤ length store
  unfolding keep_verdict room_left
  keep-room = leb-true _ _ (need-fine 16 name _ (all-fine (keep_causes cells volumes masses store name) e).1.1.1.1.0)

  pub keep-long : cells ≤ length masses
  unfolding opened_verdict
  keep-long = field-lent (lent_mesh cells volumes masses store) masses (all-fine (opened_causes cells volumes masses store) opened-fine).1.1.0

  abbrev after : List Kept
  after = fields_in cells store ++ (kept_field cells masses name ∷ [])

  pub after-sized : Sized cells after
  after-sized = sized-append cells (fields_in cells store) _ (in-sized cells store keep-counted) (length-take-le cells masses keep-long, tt)

  pub after-length : length after ≡ suc (count store)
  after-length = length-append (fields_in cells store) (kept_field cells masses name ∷ []) ∙ omega (arith, in-length cells store keep-counted)

  after-room : used cells (length after) + length {A = ℕ} [] ≤ length store
  after-room = rw after-length (omega (arith, keep-room))

  pub keep-is : keep_store cells volumes masses store name ≡ over (store_of after ++ []) store
  unfolding keep_store
  keep-is = rw (e, append-nil (store_of after))

  -- keeping puts the field after all others
  pub keep-effect : fields_in cells (keep_store cells volumes masses store name) ≡ fields_in cells store ++ (kept_field cells masses name ∷ [])
  keep-effect = ap (fields_in cells) keep-is ∙ written-fields cells after after-sized [] store after-room

  pub kept-length : length (keep_store cells volumes masses store name) ≡ length store
  kept-length = ap length keep-is ∙ written-length cells after after-sized [] store after-room

  pub kept-counted : used cells (count (keep_store cells volumes masses store name)) ≤ length (keep_store cells volumes masses store name)
  kept-counted = rw keep-is (written-counted cells after after-sized [] store after-room)

-- an accepted drop
module _ (cells : ℕ) (store : List ℕ) (name : ℕ) (e : drop_verdict cells store name ≡ fine) where
  pub drop-counted : used cells (count store) ≤ length store
  unfolding drop_verdict
  drop-counted = count-counted cells store (all-fine (drop_causes cells store name) e).1.1.0

  pub drop-kept : is_kept name (fields_in cells store) ≡ true
  unfolding drop_verdict name_kept
  drop-kept = (both_true (name_fits name) _ (need-fine 17 name _ (all-fine (drop_causes cells store name) e).1.1.1.0)).1

  -- the fields before the one meant, it, and those after it: dropping leaves the first and the last, in their order
  pub drop-found : Found name (fields_in cells store)
  drop-found = found name (fields_in cells store) drop-kept

  abbrev left : List Kept
  left = without name (fields_in cells store)

  pub left-sized : Sized cells left
  left-sized =
      let f = drop-found in
      let p = sized-parts cells f.earlier (f.meant ∷ f.later) (rw f.all at (in-sized cells store drop-counted)) in
      rw f.others (sized-append cells f.earlier f.later p.0 p.1.1)

  pub left-length : suc (length left) ≡ count store
  left-length =
      let f = drop-found in
      let n : length (fields_in cells store) ≡ length f.earlier + suc (length f.later) = ap length f.all
      ∙ length-append f.earlier (f.meant ∷ f.later) in
      rw f.others (omega (arith, length-append f.earlier f.later, n, in-length cells store drop-counted))

  left-room : used cells (length left) + length {A = ℕ} (replicate (cells + 1) 0) ≤ length store
  left-room =
      let c : used cells (suc (length left)) ≤ length store = rw left-length drop-counted in
      omega (arith, length-replicate {A = ℕ} (cells + 1) 0, suc-mul (length left) (cells + 1))

  pub drop-is : drop_store cells store name ≡ over (store_of left ++ replicate (cells + 1) 0) store
  unfolding drop_store
  drop-is = rw e

  -- dropping leaves the other fields in their order
  pub drop-effect : fields_in cells (drop_store cells store name) ≡ without name (fields_in cells store)
  drop-effect = ap (fields_in cells) drop-is ∙ written-fields cells left left-sized (replicate (cells + 1) 0) store left-room

  pub dropped-length : length (drop_store cells store name) ≡ length store
  dropped-length = ap length drop-is ∙ written-length cells left left-sized (replicate (cells + 1) 0) store left-room

  pub dropped-counted : used cells (count (drop_store cells store name)) ≤ length (drop_store cells store name)
  dropped-counted = rw drop-is (written-counted cells left left-sized (replicate (cells + 1) 0) store left-room)

-- an accepted return: the masses kept are as many as the cells, and pass cause 6
module _ (cells : ℕ) (volumes masses store : List ℕ) (name : ℕ) (e : return_verdict cells volumes masses store name ≡ fine) where
  pub held-salt : field_values (cells_only cells volumes) (held_under name (fields_in cells store)) ≡ fine
  unfolding return_verdict
  held-salt = (all-fine (return_causes cells volumes masses store name) e).1.1.1.0

  pub held-length : length (held_under name (fields_in cells store)) ≡ cells
  unfolding return_verdict name_kept
  held-length =
      let p = all-fine (return_causes cells volumes masses store name) e in
      let c = count-counted cells store p.1.0 in
      let f = found name (fields_in cells store) (both_true (name_fits name) _ (need-fine 17 name _ p.1.1.0)).1 in
      ap length f.held ∙ (sized-parts cells f.earlier (f.meant ∷ f.later) (rw f.all at (in-sized cells store c))).1.0

-- Dropping frees what keeping took: after both the store is as before, but for the freed entries, which are 0.
module _ (cells : ℕ) (volumes masses store : List ℕ) (name : ℕ) (e : keep_verdict cells volumes masses store name ≡ fine) where
  abbrev kept : List ℕ
  kept = keep_store cells volumes masses store name

  pub may-drop : drop_verdict cells kept name ≡ fine
  unfolding drop_verdict opened_verdict counts store_table name_kept ◌and_then◌
  may-drop =
      let o = all-fine (opened_causes cells volumes masses store) (opened-fine cells volumes masses store name e) in
      let l : 1 ≤ length kept = rw (kept-length cells volumes masses store name e) (omega (arith, keep-counted cells volumes masses store name e)) in
      let k : is_kept name (fields_in cells kept) ≡ true = rw (keep-effect cells volumes masses store name e)
      (new-kept name (fields_in cells store) (kept_field cells masses name) refl) in
      rw (
        o.0,
        need-met 2 13 (le-leb 1 (length kept) l),
        counted-good cells kept (kept-counted cells volumes masses store name e),
        need-met 17 name (true-both (keep-fits cells volumes masses store name e) k),
      )

  pub keep-then-drop : drop_store cells kept name ≡ over (take (used cells (count store)) store ++ replicate (cells + 1) 0) store
  keep-then-drop =
      let fs = fields_in cells store in
      let c = keep-counted cells volumes masses store name e in
      let n : length (store_of fs) ≡ used cells (count store) = store_length cells fs (in-sized cells store c) ∙ ap (used cells) (in-length cells store c) in
      let front : take (used cells (count store)) store ≡ store_of fs = ap (take (used cells (count store))) (store_split cells store c)
      ∙ take_at (store_of fs) (drop (used cells (count store)) store) (used cells (count store)) n in
      let gone : without name (fields_in cells kept) ≡ fs = ap (without name) (keep-effect cells volumes masses store name e)
      ∙ new-without name fs (kept_field cells masses name) (keep-new cells volumes masses store name e) refl in
      let a : length (store_of (fs ++ (kept_field cells masses name ∷ [])) ++ []) ≡ used cells (suc (count store))
      = length-append (store_of (fs ++ (kept_field cells masses name ∷ []))) []
      ∙ omega (
        arith,
        store_length cells (fs ++ (kept_field cells masses name ∷ []))
            (after-sized cells volumes masses store name e),
        ap (used cells) (after-length cells volumes masses store name e),
      ) in
      let b : length (store_of fs ++ replicate (cells + 1) 0) ≡ used cells (suc (count store))
      = length-append (store_of fs) (replicate (cells + 1) 0) ∙ omega (arith, n, length-replicate {A = ℕ} (cells + 1) 0, suc-mul (count store) (cells + 1)) in
      drop-is cells kept name may-drop ∙ rw (gone, front, keep-is cells volumes masses store name e)
      (over-over (store_of fs ++ replicate (cells + 1) 0) (store_of (fs ++ (kept_field cells masses name ∷ [])) ++ []) store
      (b ∙ sym a))
