-- Document 02, S-4: the three calls on a store. What each tests, in order; what it answers and leaves.
use Rattle.std.specs.Prelude.{ℕ, ◌+◌, ◌≡◌, List, [], ◌∷◌, ◌++◌, length, replicate, Result}
use Rattle.lists.specs.Table.{over}
use Rattle.model.specs.Mesh.{Mesh, ceiling}
use Rattle.model.specs.Causes.{Verdict, in_turn, granted, long, cells_only, counts, mesh_tables, mesh_values, field_table, field_values}
use Rattle.model.specs.Answers.{said}
use Rattle.store_kept.specs.Store.{kept_field, fields_in, store_of, held_under, without}
use Rattle.store_kept.specs.Tests.{count_good, name_new, room_left, name_kept}
use Rattle.model.specs.declared.Refusal.{Refusal}

module _ (cells : ℕ) (store : List ℕ) where
  -- Cause 2, position 13: the table has an entry for the count.
  unfoldable pub store_table : Verdict
  store_table = long 13 1 (length store)

  module _ (name : ℕ) where
    -- Dropping is lent cells, store and name.
    abbrev pub drop_causes : List Verdict
    drop_causes = counts (cells_only cells []) ∷ store_table ∷ count_good cells store ∷ name_kept cells store name ∷ []

    unfoldable pub drop_verdict : Verdict
    drop_verdict = in_turn drop_causes

    -- What was behind the field moves down over it, and as many entries as it had read 0 at the end.
    unfoldable pub drop_store : List ℕ
    drop_store = granted drop_verdict (over (store_of (without name (fields_in cells store)) ++ replicate (cells + 1) 0) store) store

-- Keeping and return are lent cells, volumes, masses, store and name.
module _ (cells : ℕ) (volumes masses store : List ℕ) where
  abbrev pub lent_mesh : Mesh
  lent_mesh = cells_only cells volumes

  -- 1, 2 and 3
  abbrev pub opened_causes : List Verdict
  opened_causes = counts lent_mesh ∷ mesh_tables lent_mesh ∷ field_table lent_mesh masses ∷ store_table cells store ∷ mesh_values ceiling lent_mesh ∷ []

  unfoldable pub opened_verdict : Verdict
  opened_verdict = in_turn opened_causes

  module _ (name : ℕ) where
    -- Keeping judges the masses by 6, and then the store.
    abbrev pub keep_causes : List Verdict
    keep_causes = opened_verdict ∷ field_values lent_mesh masses ∷ count_good cells store ∷ name_new cells store name ∷ room_left cells store name ∷ []

    unfoldable pub keep_verdict : Verdict
    keep_verdict = in_turn keep_causes

    -- It stands after all others.
    unfoldable pub keep_store : List ℕ
    keep_store = granted keep_verdict (over (store_of (fields_in cells store ++ (kept_field cells masses name ∷ []))) store) store

    -- A return does not test the masses that it fills; it judges the kept ones by 6, after 17.
    abbrev pub return_causes : List Verdict
    return_causes = opened_verdict ∷ count_good cells store ∷ name_kept cells store name ∷ field_values lent_mesh (held_under name (fields_in cells store)) ∷ []

    unfoldable pub return_verdict : Verdict
    return_verdict = in_turn return_causes

    unfoldable pub return_masses : List ℕ
    return_masses = granted return_verdict (over (held_under name (fields_in cells store)) masses) masses

-- What the three calls promise of their answers and of the tables that they write, for all input.
pub record KeepPromise (cells : ℕ) (volumes masses store : List ℕ) (name : ℕ) (r : Result (Unit {0}) Refusal) (store' : List ℕ) : Type 0 where
  pub answer : said r ≡ keep_verdict cells volumes masses store name
  pub store_is : store' ≡ keep_store cells volumes masses store name

pub record DropPromise (cells : ℕ) (store : List ℕ) (name : ℕ) (r : Result (Unit {0}) Refusal) (store' : List ℕ) : Type 0 where
  pub answer : said r ≡ drop_verdict cells store name
  pub store_is : store' ≡ drop_store cells store name

pub record ReturnPromise (cells : ℕ) (volumes masses store : List ℕ) (name : ℕ) (r : Result (Unit {0}) Refusal) (masses' : List ℕ) : Type 0 where
  pub answer : said r ≡ return_verdict cells volumes masses store name
  pub masses_are : masses' ≡ return_masses cells volumes masses store name
