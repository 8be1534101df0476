-- Document 02, S-4: what the calls on a store test of its count, its names and its room.
use Rattle.std.specs.Prelude.{ℕ, suc, Bool, not, ◌&&◌, List, leb, length}
use Rattle.model.specs.Causes.{Verdict, need, between}
use Rattle.store_kept.specs.Store.{max_name, count, fields_in, used, is_kept}

-- no name outside 1 to 65,535 is ever kept, even where a broken store holds it
abbrev pub name_fits : ℕ → Bool
name_fits name = between 1 max_name name

module _ (cells : ℕ) (store : List ℕ) where
  -- Cause 13, place 1: the table holds as many fields as its count says.
  abbrev pub count_fits : Bool
  count_fits = leb (used cells (count store)) (length store)

  unfoldable pub count_good : Verdict
  count_good = need 13 1 count_fits

  module _ (name : ℕ) where
    -- Cause 15, on keeping: the name is one, and not yet kept.
    unfoldable pub name_new : Verdict
    name_new = need 15 name (name_fits name && not (is_kept name (fields_in cells store)))

    -- Cause 16, on keeping: one entry for the name and one per cell are left.
    unfoldable pub room_left : Verdict
    room_left = need 16 name (leb (used cells (suc (count store))) (length store))

    -- Cause 17, on dropping and on return: the name is one, and kept.
    unfoldable pub name_kept : Verdict
    name_kept = need 17 name (name_fits name && is_kept name (fields_in cells store))
