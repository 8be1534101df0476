-- What the cells' test says is what ranking asks, and without marks every cell is open.
use Rattle.std.proofs.Common.{sym, ◌∙◌}
use Rattle.board.proofs.Listed.{rank-asks, without-marks}
use Rattle.board.proofs.board.Goals as goal

pub board_after-requires : goal.board_after-requires
board_after-requires c e = rank-asks _ _ _ (sym c.check_cells-verdict.ensures ∙ e)

pub returns : goal.returns
returns c = without-marks _ _ _ _ (rw c.check_cells-verdict.ensures at c.board_after.ensures)
