-- At most eight entries are used, so that their lines fit into the bytes lent.
use Rattle.std.proofs.Common.{rules}
use Rattle.run_board.proofs.Entries.{board-ready}
use Rattle.run.proofs.board_lines.print_board.Goals as goal

pub put-count-requires : goal.put-count-requires
put-count-requires c = let b = board-ready _ _ _ _ c.board-answer.ensures in (b.0, b.1, search rules)
