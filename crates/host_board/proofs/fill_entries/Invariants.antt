-- The numbers of the entries before the one it has come to have been put.
use Rattle.std.proofs.Common.{◌≡◌}
use Rattle.host_field_promises.specs.Board.{entries_put}
use Rattle.host_board.proofs.fill_entries.Given as goal

abbrev pub invariant-loop-i : goal.invariant-loop-i
invariant-loop-i l = l.found ≡ entries_put l.i l.entry-items l.initial.found
