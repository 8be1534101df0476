-- The board of document 01's channel session, of more cells than it lists, and of cells with equal q.
use Prim.Native.Nat.{ℕ}
use mathlib.Core.Path.{◌≡◌, refl}
use mathlib.Core.List.{[], ◌∷◌}
use Rattle.lists.specs.Table.{over}
use Rattle.board_order.specs.Order.{ranked_of, fuller, as_full, comes_before, insert_in_order, in_order}
use Rattle.board.specs.Board.{entry_of, unused, entry_at, ranked_at, cell_before, listed_of, entries_of, listed, board_entries}
use Rattle.board.specs.declared.Entry.{Entry}

everything : Unit {0}
unfolding over entry_of ranked_of fuller as_full comes_before insert_in_order in_order entry_at ranked_at cell_before listed_of entries_of
everything = tt

abbrev entry : ℕ → ℕ → ℕ → Entry
entry c q r = record { cell = c; q = q; rest = r }

pub channel : board_entries (100 ∷ 100 ∷ 100 ∷ []) (100099 ∷ 81188 ∷ 18713 ∷ []) 3
    ≡ entry 0 1000 99 ∷ entry 1 811 88 ∷ entry 2 187 13 ∷ unused ∷ unused ∷ unused ∷ unused ∷ unused ∷ []
unfolding everything
channel = refl

pub nine-cells : listed (1 ∷ 1 ∷ 1 ∷ 1 ∷ 1 ∷ 1 ∷ 1 ∷ 1 ∷ 2 ∷ []) (5 ∷ 7 ∷ 5 ∷ 0 ∷ 9 ∷ 1 ∷ 2 ∷ 3 ∷ 11 ∷ []) 9 ≡ 4 ∷ 1 ∷ 8 ∷ 0 ∷ 2 ∷ 7 ∷ 6 ∷ 5 ∷ []
unfolding everything
nine-cells = refl

-- S-2: equal q on equal volumes, rests 3, 9 and 5 of V 10
pub larger-rest : board_entries (10 ∷ 10 ∷ 10 ∷ []) (43 ∷ 49 ∷ 45 ∷ []) 3 ≡ entry 1 4 9 ∷ entry 2 4 5 ∷ entry 0 4 3 ∷ unused ∷ unused ∷ unused ∷ unused ∷ unused
    ∷ []
unfolding everything
larger-rest = refl

-- rest 1 of V 2 and 2 of V 4 are equal parts, so the lower cell leads in both orders
pub equal-parts : board_entries (2 ∷ 4 ∷ []) (11 ∷ 22 ∷ []) 2 ≡ entry 0 5 1 ∷ entry 1 5 2 ∷ unused ∷ unused ∷ unused ∷ unused ∷ unused ∷ unused ∷ []
unfolding everything
equal-parts = refl

pub equal-parts-turned : board_entries (4 ∷ 2 ∷ []) (22 ∷ 11 ∷ []) 2 ≡ entry 0 5 2 ∷ entry 1 5 1 ∷ unused ∷ unused ∷ unused ∷ unused ∷ unused ∷ unused ∷ []
unfolding everything
equal-parts-turned = refl

-- 2047 of 4094 is a half, 2047 of 4095 less, 2048 of 4095 more: in thousandths, rounded down, 500, 499 and 500
pub close-parts : listed (4094 ∷ 4095 ∷ 4095 ∷ []) (2047 ∷ 2047 ∷ 2048 ∷ []) 3 ≡ 2 ∷ 0 ∷ 1 ∷ []
unfolding everything
close-parts = refl

-- at S-10's ceiling: 65533 of 65534 is less than 65534 of 65535
pub closest-parts : listed (65534 ∷ 65535 ∷ []) (65533 ∷ 65534 ∷ []) 2 ≡ 1 ∷ 0 ∷ []
unfolding everything
closest-parts = refl

-- nine cells of equal q, V 7 and 14: the parts of 7 are 6, 6, 5, 5, 4, 3, 2, 1 and 0, and the emptiest falls out
pub nine-equal : listed (7 ∷ 14 ∷ 7 ∷ 14 ∷ 7 ∷ 7 ∷ 14 ∷ 7 ∷ 7 ∷ []) (21 ∷ 54 ∷ 26 ∷ 52 ∷ 27 ∷ 23 ∷ 44 ∷ 24 ∷ 25 ∷ []) 9 ≡ 1 ∷ 4 ∷ 2 ∷ 3 ∷ 8 ∷ 7 ∷ 5 ∷ 6 ∷ []
unfolding everything
nine-equal = refl
