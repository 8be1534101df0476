-- Document 01, "The board and the run": the cells that the board lists, in the order of document 02, S-2.
use Rattle.std.specs.Prelude.{ℕ, ◌/◌, ◌≤◌, ◌<◌, min, ◌≡◌, Bool, true, List, map, length, get_or, take, replicate}
use Rattle.lists.specs.Table.{over}
use Rattle.lists.specs.Marked.{count}
use Rattle.model.specs.Step.{rest_of}
use Rattle.model.specs.Causes.{Verdict, granted, mesh_field_verdict, cells_only}
use Rattle.model.specs.Answers.{said}
use Rattle.board_order.specs.declared.Ranked.{Ranked}
use Rattle.board_order.specs.Order.{max_ranked, ranked_of, unranked, comes_before, in_order}
use Rattle.board.specs.declared.Entry.{Entry}
use Rattle.board.specs.declared.BoardAnswer.{BoardAnswer}

-- The first sentence: how many cells are listed at most.
abbrev pub board_size : ℕ
board_size = 8

-- An entry: q is m / V rounded down, beside its rest.
unfoldable pub entry_of : ℕ → ℕ → ℕ → Entry
entry_of cell volume mass = record { cell = cell; q = mass / volume; rest = rest_of volume mass }

abbrev pub unused : Entry
unused = record { cell = 0; q = 0; rest = 0 }

-- what the board shows of a cell that the order sees
unfoldable pub shown : Ranked → Entry
shown a = record { cell = a.cell; q = a.q; rest = a.rest }

-- Document 02, S-14: a reader sees some of the cells; the growers' reader sees every one.
abbrev pub every_cell : ℕ → Bool
every_cell c = true

module _ (volumes masses : List ℕ) where
  unfoldable pub entry_at : ℕ → Entry
  entry_at c = entry_of c (get_or volumes c 0) (get_or masses c 0)

  unfoldable pub ranked_at : ℕ → Ranked
  ranked_at c = ranked_of c (get_or volumes c 0) (get_or masses c 0)

  -- cell a comes before cell b
  unfoldable pub cell_before : ℕ → ℕ → Bool
  cell_before a b = comes_before (ranked_at a) (ranked_at b)

  -- the first eight of the visible cells, or all of them where there are fewer
  unfoldable pub listed_of : (visible : ℕ → Bool) → ℕ → List ℕ
  listed_of visible cells = take board_size (in_order visible cell_before cells)

  -- as the order sees them, written over eight that are not used
  unfoldable pub ranked_cells : (visible : ℕ → Bool) → ℕ → List Ranked
  ranked_cells visible cells = over (map ranked_at (listed_of visible cells)) (replicate board_size unranked)

  -- their entries, written over eight unused ones
  unfoldable pub entries_of : (visible : ℕ → Bool) → ℕ → List Entry
  entries_of visible cells = over (map entry_at (listed_of visible cells)) (replicate board_size unused)

  -- the growers' board
  abbrev pub listed : ℕ → List ℕ
  listed = listed_of every_cell

  abbrev pub board_entries : ℕ → List Entry
  board_entries = entries_of every_cell

  -- causes 1, 2, 3 and 6: the board is lent cells, volumes and masses alone
  abbrev pub board_verdict : ℕ → Verdict
  board_verdict cells = mesh_field_verdict (cells_only cells volumes) masses

-- what ranking cells asks of their tables
abbrev pub Rankable : (volumes masses : List ℕ) (cells : ℕ) → Type 0
Rankable volumes masses cells =
    ((cells ≤ length volumes) × (cells ≤ length masses)) × ((c : ℕ) → c < cells → (1 ≤ get_or volumes c 0) × (get_or volumes c 0 ≤ max_ranked))

-- what a board answers after a verdict: that, how many entries are used, and the entries; none after a refusal
pub record BoardAfter (verdict : Verdict) (volumes masses : List ℕ) (visible : ℕ → Bool) (cells : ℕ) (r : BoardAnswer) : Type 0 where
  pub verdict_is : said r.verdict ≡ verdict
  pub used_is : r.used ≡ granted verdict (min board_size (count cells visible)) 0
  pub entries_are : r.entries ≡ granted verdict (entries_of volumes masses visible cells) (replicate board_size unused)

-- what the growers' board answers
pub record BoardIs (cells : ℕ) (volumes masses : List ℕ) (r : BoardAnswer) : Type 0 where
  pub verdict_is : said r.verdict ≡ board_verdict volumes masses cells
  pub used_is : r.used ≡ granted (board_verdict volumes masses cells) (min board_size cells) 0
  pub entries_are : r.entries ≡ granted (board_verdict volumes masses cells) (board_entries volumes masses cells) (replicate board_size unused)
