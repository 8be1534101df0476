-- For a host in C, on a mesh record and a field record: document 01, "The board and the run", and document 02, S-14. The records are tested first, as the step
-- on records tests them; then come the causes of the board on their tables.
use Rattle.std.specs.Prelude.{ℕ, min, List}
use Rattle.lists.specs.Marked.{count}
use Rattle.model.specs.Causes.{Outcome, accepted, ◌and_then◌}
use Rattle.record_reading.specs.Reading.{mesh_in}
use Rattle.public_marks.specs.Marks.{is_open}
use Rattle.board.specs.Board.{board_size, board_verdict, board_entries}
use Rattle.public_board.specs.Public.{open_entries, public_board_verdict}
use Rattle.host_field_promises.specs.Board.{Shown}
use Rattle.host_tested.specs.Tested.{field_tested, field_in}

module _ (mesh field : List ℕ) where
  -- the growers' board
  abbrev pub board_found : Outcome Shown
  board_found = field_tested mesh field and_then board_verdict (mesh_in mesh).volumes (field_in mesh field) (mesh_in mesh).cells
      and_then accepted (record {
        used = min board_size (mesh_in mesh).cells;
        entries = board_entries (mesh_in mesh).volumes (field_in mesh field) (mesh_in mesh).cells;
      })

  -- and that of the public, ranked among the open cells only
  abbrev pub public_board_found : List ℕ → Outcome Shown
  public_board_found marks = field_tested mesh field and_then public_board_verdict (mesh_in mesh).volumes (field_in mesh field) marks (mesh_in mesh).cells
      and_then accepted (record {
        used = min board_size (count (mesh_in mesh).cells (is_open marks));
        entries = open_entries (mesh_in mesh).volumes (field_in mesh field) marks (mesh_in mesh).cells;
      })
