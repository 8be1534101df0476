-- Document 01, "The board and the run", and document 02, S-14, for a host in C: a board is 25 numbers, how many entries are used and then cell,
-- q and rest of each of the eight.
use Rattle.std.specs.Prelude.{ℕ, zero, suc, ◌+◌, ◌*◌, min, List, [], ◌∷◌, ◌++◌, get_or, set}
use Rattle.lists.specs.Marked.{count}
use Rattle.model.specs.Causes.{Outcome, accepted, ◌and_then◌}
use Rattle.model.specs.Answers.{said}
use Rattle.public_marks.specs.Marks.{is_open}
use Rattle.board.specs.Board.{board_size, unused, board_verdict, board_entries}
use Rattle.board.specs.declared.Entry.{Entry}
use Rattle.board.specs.declared.BoardAnswer.{BoardAnswer}
use Rattle.public_board.specs.Public.{open_entries, public_board_verdict}
use Rattle.host_answer.specs.Found.{Answered}

-- the numbers of the first n entries
unfoldable pub entry_numbers : ℕ → List Entry → List ℕ
entry_numbers zero es = []
entry_numbers (suc n) es = entry_numbers n es ++ ((get_or es n unused).cell ∷ (get_or es n unused).q ∷ (get_or es n unused).rest ∷ [])

-- the first n entries put after the place of how many are used, each number where there is room
unfoldable pub entries_put : ℕ → List Entry → List ℕ → List ℕ
entries_put zero es found = found
entries_put (suc n) es found =
    set (set (set (entries_put n es found) (3 * n + 1) (get_or es n unused).cell) (3 * n + 1 + 1) (get_or es n unused).q) (3 * n + 1 + 2) (get_or es n unused).rest

-- what a board shows
pub record Shown : Type 0 where
  pub used : ℕ
  pub entries : List Entry

abbrev pub shown_numbers : Shown → List ℕ
shown_numbers b = b.used ∷ entry_numbers board_size b.entries

abbrev pub board_said : BoardAnswer → Outcome Shown
board_said a = said a.verdict and_then accepted (record { used = a.used; entries = a.entries })

abbrev pub BoardFromC : (cells : ℕ) (volumes masses found : List ℕ) (r : ℕ) (found' : List ℕ) → Type 0
BoardFromC cells volumes masses = Answered shown_numbers
    (board_verdict volumes masses cells and_then accepted (record { used = min board_size cells; entries = board_entries volumes masses cells }))

abbrev pub PublicBoardFromC : (cells : ℕ) (volumes masses marks found : List ℕ) (r : ℕ) (found' : List ℕ) → Type 0
PublicBoardFromC cells volumes masses marks = Answered shown_numbers
    (public_board_verdict volumes masses marks cells
    and_then accepted (record { used = min board_size (count cells (is_open marks)); entries = open_entries volumes masses marks cells }))
