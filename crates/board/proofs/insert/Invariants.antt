-- The loop carries one cell past those used: the cell itself until its place is found, then the one that it displaces.
use Rattle.std.proofs.Common.{take}
use Rattle.board_order.specs.Order.{comes_before, insert_in_order}
use Rattle.board_order.proofs.Insertion.{Carrying}
use Rattle.board.specs.Board.{board_size}
use Rattle.board.proofs.insert.Given as goal

abbrev pub invariant-loop-i : goal.invariant-loop-i
invariant-loop-i l =
    Carrying comes_before (insert_in_order comes_before l.initial.carried (take l.used l.initial.ranks)) l.used board_size l.initial.ranks l.ranks l.moving l.carried l.i
