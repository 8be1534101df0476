-- Document 02, S-14: no accepted public page or board reads a mark past the table, where `is_open` of the definitions would find 0, open.
use Rattle.std.specs.Prelude.{ℕ, ◌≤◌, ◌<◌, ◌≡◌, List, length, get_or}
use Rattle.model.specs.Causes.{accepted, fine}
use Rattle.record_reading.specs.Reading.{mesh_in}
use Rattle.public_page.specs.Public.{public_page_verdict}
use Rattle.public_board.specs.Public.{public_board_verdict}
use Rattle.host_record_promises.specs.Cells.{public_page_found}
use Rattle.host_field_promises.specs.Board.{Shown}
use Rattle.host_record_promises.specs.Boards.{public_board_found}

-- every counted cell has a mark that was lent, and it is 0 or 1
pub record AllMarked (marks : List ℕ) (cells : ℕ) : Type 0 where
  pub there : cells ≤ length marks
  pub open_or_withheld : (c : ℕ) → c < cells → get_or marks c 0 ≤ 1

-- of calls that are refused for nothing: on tables, from Rattle and from C, and on records
pub record OnlyMarked : Type 0 where
  pub page_marked : (volumes masses marks : List ℕ) (cells page room : ℕ) → public_page_verdict volumes masses marks cells page room ≡ fine
      → AllMarked marks cells
  pub board_marked : (volumes masses marks : List ℕ) (cells : ℕ) → public_board_verdict volumes masses marks cells ≡ fine → AllMarked marks cells
  pub record_page_marked : (mesh field marks : List ℕ) (page room : ℕ) → public_page_found mesh field marks page room ≡ fine
      → AllMarked marks (mesh_in mesh).cells
  pub record_board_marked : (mesh field marks : List ℕ) (shown : Shown) → public_board_found mesh field marks ≡ accepted shown
      → AllMarked marks (mesh_in mesh).cells
