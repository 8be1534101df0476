-- The causes of each call as they are tested, and what a passed test gives.
use Prim.Native.Nat.{ℕ, ◌+◌, ◌-◌, ◌≤◌, ◌<◌}
use mathlib.Core.Path.{◌≡◌, ap, ◌∙◌}
use mathlib.Core.List.{List, []}
use native.Mathlib.Omega.{arith}
use lib.ListN.{length, get_or, take, drop, length-drop}
use lib.Seq.{length-take-le}
use Rattle.model.specs.Mesh.{max_cells, max_volume, volume}
use Rattle.model.specs.Causes.{Verdict, refused, fine, ◌and_then◌, each, salt_fit, cells_only, counts, salt_good, field_values}
use Rattle.model.proofs.Verdicts.{both-fine, and_then-assoc, long-fine}
use Rattle.model.proofs.Accepted.{counted, salt-asks}
use Rattle.store_kept.specs.Store.{fields_in, held_under}
use Rattle.store_kept.specs.Tests.{count_good, name_new, room_left, name_kept}
use Rattle.store.specs.Calls.{store_table, drop_verdict, drop_store, opened_verdict, keep_verdict, keep_store, return_verdict, return_masses}

module _ (cells : ℕ) (store : List ℕ) (name : ℕ) where
  -- dropping: its causes as they are tested, and what the first of them give
  pub drop-groups : drop_verdict cells store name ≡ (counts (cells_only cells []) and_then store_table cells store
      and_then (count_good cells store and_then name_kept cells store name))
  unfolding drop_verdict
  drop-groups = and_then-assoc (counts (cells_only cells []) and_then store_table cells store) (count_good cells store) (name_kept cells store name)

  pub drop-opened : (counts (cells_only cells []) and_then store_table cells store) ≡ fine → (1 ≤ length store) × (cells ≤ max_cells)
  unfolding store_table
  drop-opened e = let p = both-fine _ _ e in (long-fine 13 1 (length store) p.1, (counted (cells_only cells []) p.0).few_cells)

  pub drop-stays : {i j : ℕ} → drop_verdict cells store name ≡ refused i j → store ≡ drop_store cells store name
  unfolding drop_store
  drop-stays e = rw e

  module _ (volumes masses : List ℕ) where
    pub opened-asks : opened_verdict cells volumes masses store ≡ fine
        → (((cells ≤ length volumes) × (cells ≤ length masses))
        × ((c : ℕ) → c < cells → (1 ≤ volume (cells_only cells volumes) c) × (volume (cells_only cells volumes) c ≤ max_volume)))
        × ((1 ≤ length store) × (cells ≤ max_cells))
    unfolding opened_verdict store_table
    opened-asks e =
        let p = both-fine _ _ e in
        let q = both-fine _ _ p.0 in (
          salt-asks (cells_only cells volumes) masses q.0 p.1,
          (long-fine 13 1 (length store) q.1, (counted (cells_only cells volumes) (both-fine _ _ (both-fine _ _ q.0).0).0).few_cells),
        )

    regroup : (o f c n r : Verdict) → (o and_then f and_then c and_then n and_then r) ≡ (o and_then (f and_then (c and_then n and_then r)))
    regroup o f c n r = simp and_then-assoc

    pub keep-groups : keep_verdict cells volumes masses store name
        ≡ (opened_verdict cells volumes masses store and_then
        (field_values (cells_only cells volumes) masses and_then
        (count_good cells store and_then name_new cells store name and_then room_left cells store name)))
    unfolding keep_verdict
    keep-groups = regroup _ _ _ _ _

    pub keep-stays : {i j : ℕ} → keep_verdict cells volumes masses store name ≡ refused i j → store ≡ keep_store cells volumes masses store name
    unfolding keep_store
    keep-stays e = rw e

    pub return-groups : return_verdict cells volumes masses store name
        ≡ (opened_verdict cells volumes masses store
        and_then (count_good cells store and_then name_kept cells store name
        and_then field_values (cells_only cells volumes) (held_under name (fields_in cells store))))
    unfolding return_verdict
    return-groups = regroup3 _ _ _ _
      where
        regroup3 : (o c n f : Verdict) → (o and_then c and_then n and_then f) ≡ (o and_then (c and_then n and_then f))
        regroup3 o c n f = simp and_then-assoc

    pub return-stays : {i j : ℕ} → return_verdict cells volumes masses store name ≡ refused i j → masses ≡ return_masses cells volumes masses store name
    unfolding return_masses
    return-stays e = rw e

-- a part of n entries from a place on
pub part-front : (at n : ℕ) (s : List ℕ) → take (at + n - at) (drop at s) ≡ take n (drop at s)
part-front at n s = let q : at + n - at ≡ n = omega arith in ap (λ (j : ℕ). take j (drop at s)) q

pub part_length : (at n : ℕ) (s : List ℕ) → at + n ≤ length s → length (take (at + n - at) (drop at s)) ≡ n
part_length at n s l = ap length (part-front at n s) ∙ length-take-le n (drop at s) (omega (arith, length-drop at s))

-- cause 6 of masses that are the same
pub salted : (cells : ℕ) (volumes : List ℕ) {masses same : List ℕ} → masses ≡ same
    → each 6 cells (λ c. salt_fit (get_or volumes c 0) (get_or masses c 0)) ≡ field_values (cells_only cells volumes) same
unfolding field_values salt_good
salted cells volumes e = rw e
