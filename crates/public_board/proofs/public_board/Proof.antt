use mathlib.Core.Path.{sym, ◌∙◌}
use Rattle.public_board.proofs.Laws.{asks}
use Rattle.public_board.proofs.public_board.Statement.{statement}
use Rattle.public_board.proofs.public_board.Tie as tie

board-after-requires : tie.Need-board_after-requires
board-after-requires c κs e = asks _ _ _ _ (sym c.judge-verdict.ensures ∙ e)

returns : tie.Need-returns
returns c = rw c.before.judge-verdict.ensures at c.board_after.ensures

pub public_board_spec : {M : Type 1} → statement M
public_board_spec = tie.close (tie.spec (λ c κs. tt) board-after-requires returns)
