-- Each turn carries the cell on or leaves it; at last it is put where there is room, and falls out where there is none.
use Rattle.std.proofs.Common.{refl, rules, arith}
use Rattle.board_order.specs.Order.{unranked, comes_before}
use Rattle.board_order.proofs.Insertion.{at-start, carried_on, passed, at-end, room-left, no_room}
use Rattle.board.specs.Board.{board_size}
use Rattle.board.proofs.insert.Goals as goal
use Rattle.board.proofs.insert.Goals.{then-displaces, else-displaces}

pub loop-i-init : goal.loop-i-init
loop-i-init c = at-start comes_before _ _ _ _ (search rules)

pub loop-i-preserved : goal.loop-i-preserved
loop-i-preserved c =
    let p = c.loop-i in
    elim c.if-displaces.branch [
      | then-displaces w ↦ carried_on comes_before _ _ _ _ p.ranks p.i p.moving p.carried _ unranked c.loop-i-test.true c.requires
          p.invariant refl c.displaces.ensures w.if-displaces.true w.ranks-is w.carried-is w.moving-is
      | else-displaces w ↦ passed comes_before _ _ _ _ p.ranks p.i p.moving p.carried _ unranked c.loop-i-test.true c.requires
          p.invariant refl c.displaces.ensures w.if-displaces.false w.ranks-is w.carried-is w.moving-is
    ]

pub returns-then-used-lt-BOARD_SIZE : goal.returns-then-used-lt-BOARD_SIZE
returns-then-used-lt-BOARD_SIZE c =
    let i = c.loop-i.invariant in (
      omega arith,
      room-left board_size _ _ _ _ _ i.long i.untouched (at-end comes_before _ _ _ _ _ _ _ _ c.loop-i-test.false i) c.if-used-lt-BOARD_SIZE.true,
    )

pub returns : goal.returns
returns c =
    let i = c.loop-i.invariant in (
      omega arith,
      no_room board_size _ _ _ _ _ i.long i.untouched (at-end comes_before _ _ _ _ _ _ _ _ c.loop-i-test.false i) c.requires c.if-used-lt-BOARD_SIZE.false,
    )
