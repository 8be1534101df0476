-- Document 02, S-4: lists of calls on one store, each lent the same number of cells and the store as the last call left it.
use Rattle.std.specs.Prelude.{ℕ, ◌≤◌, ◌≡◌, ◌≢◌, List, [], ◌∷◌, length, take}
use Rattle.lists.specs.Table.{over}
use Rattle.model.specs.Causes.{fine}
use Rattle.store.specs.Calls.{keep_verdict, keep_store, drop_verdict, drop_store, return_verdict, return_masses}

-- A call, with what it is lent besides; a step, as any other call, is not lent the store.
pub data StoreCall : Type 0 where
  keeping : (volumes masses : List ℕ) (name : ℕ) → StoreCall
  dropping : (name : ℕ) → StoreCall
  returning : (volumes masses : List ℕ) (name : ℕ) → StoreCall
  elsewhere : StoreCall

module _ (cells : ℕ) where
  -- the store after a call, and after all calls of a list
  abbrev pub store_after : StoreCall → List ℕ → List ℕ
  store_after (keeping volumes masses name) store = keep_store cells volumes masses store name
  store_after (dropping name) store = drop_store cells store name
  store_after (returning volumes masses name) store = store
  store_after elsewhere store = store

  unfoldable pub store_after_all : List ℕ → List StoreCall → List ℕ
  store_after_all store [] = store
  store_after_all store (k ∷ ks) = store_after_all (store_after k store) ks

  -- a call is not an accepted drop of the name; and no call of a list is
  abbrev pub Spares : ℕ → StoreCall → List ℕ → Type 0
  Spares name (keeping _ _ _) store = Unit {0}
  Spares name (dropping other) store = drop_verdict cells store other ≡ fine → other ≢ name
  Spares name (returning _ _ _) store = Unit {0}
  Spares name elsewhere store = Unit {0}

  abbrev pub Spared : ℕ → List ℕ → List StoreCall → Type 0
  Spared name store [] = Unit {0}
  Spared name store (k ∷ ks) = Spares name k store × Spared name (store_after k store) ks

-- S-4, what a return gives: after an accepted keep and any list of calls that does not drop it, a return on the same volumes
-- is accepted and fills the masses with those kept
abbrev pub ComesBack : Type 0
ComesBack = (cells : ℕ) (volumes masses store : List ℕ) (name : ℕ) → keep_verdict cells volumes masses store name ≡ fine
    → (calls : List StoreCall) → Spared cells name (keep_store cells volumes masses store name) calls → (filled : List ℕ) → cells ≤ length filled
    → (return_verdict cells volumes filled (store_after_all cells (keep_store cells volumes masses store name) calls) name ≡ fine)
    × (return_masses cells volumes filled (store_after_all cells (keep_store cells volumes masses store name) calls) name ≡ over (take cells masses) filled)
