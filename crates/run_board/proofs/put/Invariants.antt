-- The lines of the entries before the one it has come to are put, each no longer than the longest.
use Rattle.std.proofs.Common.{◌≡◌, ◌*◌, ◌≤◌, take}
use Rattle.run_session.specs.Session.{line_bytes}
use Rattle.run_board.specs.BoardLines.{board_lines}
use Rattle.run_board.proofs.put.Given as goal

abbrev pub invariant-loop-i : goal.invariant-loop-i
invariant-loop-i l = record {
  short : l.at ≤ l.i * line_bytes;
  put : take l.at l.lines ≡ board_lines (take l.i l.entries);
}
