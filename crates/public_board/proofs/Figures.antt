-- The channel's public board with its middle cell withheld, and boards of some, all and none of the cells.
use Prim.Native.Nat.{ℕ}
use mathlib.Core.Path.{◌≡◌, refl}
use mathlib.Core.List.{[], ◌∷◌}
use Rattle.lists.specs.Table.{over}
use Rattle.board_order.specs.Order.{ranked_of, fuller, as_full, comes_before, insert_in_order, in_order}
use Rattle.public_marks.specs.Marks.{is_open}
use Rattle.board.specs.Board.{entry_of, unused, entry_at, ranked_at, cell_before, listed_of, entries_of, board_entries}
use Rattle.board.specs.declared.Entry.{Entry}
use Rattle.public_board.specs.Public.{open_listed, open_entries}

everything : Unit {0}
unfolding over entry_of ranked_of fuller as_full comes_before insert_in_order in_order is_open entry_at ranked_at cell_before listed_of entries_of
everything = tt

abbrev entry : ℕ → ℕ → ℕ → Entry
entry c q r = record { cell = c; q = q; rest = r }

pub channel : open_entries (100 ∷ 100 ∷ 100 ∷ []) (100099 ∷ 81188 ∷ 18713 ∷ []) (0 ∷ 1 ∷ 0 ∷ []) 3
    ≡ entry 0 1000 99 ∷ entry 2 187 13 ∷ unused ∷ unused ∷ unused ∷ unused ∷ unused ∷ unused ∷ []
unfolding everything
channel = refl

-- S-2's order among those that are left: equal q, then the larger rest / V, then the lower cell
pub larger-rest : open_entries (10 ∷ 10 ∷ 10 ∷ 10 ∷ []) (43 ∷ 49 ∷ 45 ∷ 45 ∷ []) (0 ∷ 1 ∷ 0 ∷ 0 ∷ []) 4
    ≡ entry 2 4 5 ∷ entry 3 4 5 ∷ entry 0 4 3 ∷ unused ∷ unused ∷ unused ∷ unused ∷ unused ∷ []
unfolding everything
larger-rest = refl

-- the cell that would lead is withheld, the first cell or the last
pub leader-withheld : open_listed (1 ∷ 1 ∷ 1 ∷ []) (9 ∷ 5 ∷ 7 ∷ []) (1 ∷ 0 ∷ 0 ∷ []) 3 ≡ 2 ∷ 1 ∷ []
unfolding everything
leader-withheld = refl

pub last-withheld : open_listed (1 ∷ 1 ∷ 1 ∷ []) (5 ∷ 7 ∷ 9 ∷ []) (0 ∷ 0 ∷ 1 ∷ []) 3 ≡ 1 ∷ 0 ∷ []
unfolding everything
last-withheld = refl

-- nine open cells of equal q between withheld ones of higher q: parts of V 7 and 14 as on the growers' board of nine, and the emptiest falls out
pub nine-open : open_listed (7 ∷ 7 ∷ 14 ∷ 7 ∷ 14 ∷ 7 ∷ 1 ∷ 7 ∷ 14 ∷ 7 ∷ 7 ∷ 1 ∷ []) (700 ∷ 21 ∷ 54 ∷ 26 ∷ 52 ∷ 27 ∷ 9 ∷ 23 ∷ 44 ∷ 24 ∷ 25 ∷ 9 ∷ [])
    (1 ∷ 0 ∷ 0 ∷ 0 ∷ 0 ∷ 0 ∷ 1 ∷ 0 ∷ 0 ∷ 0 ∷ 0 ∷ 1 ∷ []) 12 ≡ 2 ∷ 5 ∷ 3 ∷ 4 ∷ 10 ∷ 9 ∷ 7 ∷ 8 ∷ []
unfolding everything
nine-open = refl

-- none withheld: the growers' board; all withheld: none listed
pub none-withheld : open_entries (10 ∷ 10 ∷ 10 ∷ []) (43 ∷ 49 ∷ 45 ∷ []) (0 ∷ 0 ∷ 0 ∷ []) 3 ≡ board_entries (10 ∷ 10 ∷ 10 ∷ []) (43 ∷ 49 ∷ 45 ∷ []) 3
unfolding everything
none-withheld = refl

pub all-withheld : open_listed (1 ∷ 1 ∷ []) (5 ∷ 5 ∷ []) (1 ∷ 1 ∷ []) 2 ≡ []
unfolding everything
all-withheld = refl
