-- Document 02, S-14: the board that the public reads, ranked among open cells only, in S-2's order.
use Rattle.std.specs.Prelude.{ℕ, List}
use Rattle.model.specs.Mesh.{ceiling}
use Rattle.model.specs.Causes.{Verdict, ◌and_then◌, cells_only, counts, mesh_tables, field_table, mesh_values, field_values}
use Rattle.public_marks.specs.Marks.{is_open, marks_long, marks_good}
use Rattle.board.specs.Board.{listed_of, entries_of, BoardAfter}
use Rattle.board.specs.declared.Entry.{Entry}
use Rattle.board.specs.declared.BoardAnswer.{BoardAnswer}

module _ (volumes masses marks : List ℕ) (cells : ℕ) where
  -- the open cells that are listed, and their entries
  abbrev pub open_listed : List ℕ
  open_listed = listed_of volumes masses (is_open marks) cells

  abbrev pub open_entries : List Entry
  open_entries = entries_of volumes masses (is_open marks) cells

  -- the board's causes, with the marks' table among the tables and 27 at the end
  unfoldable pub public_board_verdict : Verdict
  public_board_verdict =
      counts (cells_only cells volumes)
      and_then mesh_tables (cells_only cells volumes)
      and_then field_table (cells_only cells volumes) masses
      and_then marks_long marks cells
      and_then mesh_values ceiling (cells_only cells volumes)
      and_then field_values (cells_only cells volumes) masses
      and_then marks_good marks cells

  -- what the public board answers: the growers' board, had the withheld cells not been there
  abbrev pub PublicBoardIs : BoardAnswer → Type 0
  PublicBoardIs = BoardAfter public_board_verdict volumes masses (is_open marks) cells
