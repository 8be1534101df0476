-- Document 01, "The board and the run": a line for each entry of the board, in its order.
use Rattle.std.specs.Prelude.{ℕ, ◌*◌, List, [], ◌∷◌, ◌++◌}
use Rattle.board.specs.Board.{board_size}
use Rattle.board.specs.declared.Entry.{Entry}
use Rattle.run_lines.specs.Lines.{board_line}
use Rattle.run_session.specs.Session.{line_bytes}

unfoldable pub board_lines : List Entry → List ℕ
board_lines [] = []
board_lines (e ∷ es) = board_line e.cell e.q e.rest ++ board_lines es

-- the bytes of the longest
abbrev pub board_bytes : ℕ
board_bytes = board_size * line_bytes
