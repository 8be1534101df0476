-- Document 02, S-4: fields of one mesh kept under names in a table of 64-bit entries.
use Rattle.std.specs.Prelude.{ℕ, zero, suc, ◌+◌, ◌*◌, Bool, false, cond, ◌||◌, List, [], ◌∷◌, ◌++◌, eqb, length, get_or, take, drop}

-- names are 1 to 65,535
abbrev pub max_name : ℕ
max_name = 65535

-- a kept field: its name and its masses
pub record Kept : Type 0 where
  pub name : ℕ
  pub masses : List ℕ

-- the one that lent masses make
abbrev pub kept_field : ℕ → List ℕ → ℕ → Kept
kept_field cells masses name = record { name = name; masses = take cells masses }

-- The first entry: how many fields there are.
abbrev pub count : List ℕ → ℕ
count store = get_or store 0 0

-- Behind it the fields stand one after another, the earliest first, each with its name in front of its masses. n of them in a list of entries:
module _ (cells : ℕ) where
  unfoldable pub fields_from : ℕ → List ℕ → List Kept
  fields_from zero entries = []
  fields_from (suc n) entries = record { name = get_or entries 0 0; masses = take cells (drop 1 entries) } ∷ fields_from n (drop (cells + 1) entries)

  -- a store, read as the list of its fields
  unfoldable pub fields_in : List ℕ → List Kept
  fields_in store = fields_from (count store) (drop 1 store)

  -- how many entries n fields take, with the one for the count
  abbrev pub used : ℕ → ℕ
  used n = 1 + n * (cells + 1)

-- the same the other way: a list of fields, written as a store
unfoldable pub entries_of : List Kept → List ℕ
entries_of [] = []
entries_of (f ∷ fs) = f.name ∷ (f.masses ++ entries_of fs)

unfoldable pub store_of : List Kept → List ℕ
store_of fs = length fs ∷ entries_of fs

-- Where a name stands twice, as only another hand can have left it, the earlier field counts. Whether a name is kept:
module _ (name : ℕ) where
  unfoldable pub is_kept : List Kept → Bool
  is_kept [] = false
  is_kept (f ∷ fs) = eqb f.name name || is_kept fs

  -- the masses kept under it
  unfoldable pub held_under : List Kept → List ℕ
  held_under [] = []
  held_under (f ∷ fs) = cond (eqb f.name name) f.masses (held_under fs)

  -- the other fields, in their order
  unfoldable pub without : List Kept → List Kept
  without [] = []
  without (f ∷ fs) = cond (eqb f.name name) fs (f ∷ without fs)
