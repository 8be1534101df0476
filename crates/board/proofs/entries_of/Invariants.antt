-- The entries before the place it has come to are written over unused ones.
use Rattle.std.proofs.Common.{◌≡◌, get_or, replicate}
use Rattle.lists.specs.Table.{table, over}
use Rattle.board_order.specs.Order.{unranked}
use Rattle.board.specs.Board.{board_size, shown, unused}
use Rattle.board.proofs.entries_of.Given as goal

abbrev pub invariant-loop-i : goal.invariant-loop-i
invariant-loop-i l = l.entries ≡ over (table l.i (λ k. shown (get_or l.ranks k unranked))) (replicate board_size unused)
