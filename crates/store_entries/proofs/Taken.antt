-- The field of a name taken out of a store: what stands after it moves down, and the freed entries are cleared.
use Prim.Native.Nat.{ℕ, suc, ◌+◌, ◌-◌, ◌*◌, ◌≤◌}
use mathlib.Core.Path.{◌≡◌, sym, ap, ◌∙◌}
use mathlib.Core.Bool.{true}
use mathlib.Core.List.{List, ◌∷◌, ◌++◌, append_assoc}
use native.Mathlib.Nat.{suc-mul, add-mul}
use native.Mathlib.Omega.{arith}
use lib.ListN.{length, take, drop, set, replicate, length-append}
use Rattle.lists.specs.Table.{over}
use Rattle.store_kept.specs.Store.{Kept, count, fields_in, used, entries_of, store_of, is_kept, without}
use Rattle.store_kept.specs.Found.{fields_before}
use Rattle.store_entries.specs.Moved.{moved_down}
use Rattle.store_kept.proofs.Laid.{entries-length, entries-append, in-length}
use Rattle.store_kept.proofs.Named.{Found}
use Rattle.store_kept.proofs.Judged.{meant-found, sized, parts, place}
use Rattle.store_entries.proofs.Written.{dropped}

module _ (cells : ℕ) (store : List ℕ) (name : ℕ) (l : used cells (count store) ≤ length store) (k : is_kept name (fields_in cells store) ≡ true) where
  abbrev fs : List Kept
  fs = fields_in cells store

  abbrev found : Found name fs
  found = meant-found cells store name l k

  abbrev earlier : List ℕ
  earlier = entries_of found.earlier

  abbrev later : List ℕ
  later = entries_of found.later

  abbrev itself : List ℕ
  itself = found.meant.name ∷ found.meant.masses

  abbrev rest : List ℕ
  rest = drop (used cells (count store)) store

  lengths : (length found.earlier + suc (length found.later) ≡ count store) × (length later ≡ length found.later * (cells + 1))
  lengths = (
    sym (length-append found.earlier (found.meant ∷ found.later)) ∙ ap length (sym found.all) ∙ in-length cells store l,
    entries-length cells found.later (sized cells store name l k).1.1,
  )

  ends : used cells (fields_before name fs) + length (itself ++ later) ≡ used cells (count store)
  ends =
      let a = length found.earlier in
      let b = length found.later in
      let u : used cells (count store) ≡ used cells (a + suc b) = ap (used cells) (sym lengths.0) in
      let v : used cells (fields_before name fs) ≡ used cells a = ap (used cells) (sym found.at) in
      omega (arith, u, v, length-append itself later, lengths.1, (sized cells store name l k).1.0, add-mul a (suc b) (cells + 1), suc-mul b (cells + 1))

  others : ((count store - 1) ∷ earlier) ++ later ≡ store_of (without name fs)
  unfolding store_of
  others =
      let n : length (found.earlier ++ found.later) ≡ count store - 1 = length-append found.earlier found.later ∙ omega (arith, lengths.0) in
      sym (ap store_of found.others ∙ ap (λ (j : ℕ). j ∷ entries_of (found.earlier ++ found.later)) n
      ∙ ap (λ (u : List ℕ). (count store - 1) ∷ u) (entries-append found.earlier found.later))

  -- moved down over it and cleared at the end, the store is that of the others
  pub taken_out : set (take (used cells (fields_before name fs)) store
      ++ (moved_down (cells + 1) (take (used cells (count store) - used cells (fields_before name fs)) (drop (used cells (fields_before name fs)) store))
      ++ drop (used cells (count store) - used cells (fields_before name fs)) (drop (used cells (fields_before name fs)) store))) 0 (count store - 1)
      ≡ over (store_of (without name fs) ++ replicate (cells + 1) 0) store
  taken_out =
      let zeros : List ℕ = replicate (cells + 1) 0 in
      dropped (count store) (count store - 1) earlier itself later rest store (used cells (fields_before name fs)) (used cells (count store)) (cells + 1)
      (parts cells store name l k) (place cells store name l k) ends (omega (arith, (sized cells store name l k).1.0))
      ∙ ap (λ (u : List ℕ). over u store) (sym (append_assoc ((count store - 1) ∷ earlier) later zeros) ∙ ap (λ (u : List ℕ). u ++ zeros) others)
