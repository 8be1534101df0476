-- Each turn puts the numbers of one entry.
use Rattle.std.proofs.Common.{arith}
use Rattle.host_field_promises.proofs.Boards.{entries-start, entries-step, entries-done}
use Rattle.host_board.proofs.fill_entries.Goals as goal

pub loop-i-init : goal.loop-i-init
loop-i-init c = entries-start _ _

pub loop-i-preserved : goal.loop-i-preserved
loop-i-preserved c = entries-step _ c.loop-i.i _ c.loop-i.invariant c.put_entry.ensures

pub returns : goal.returns
returns c = entries-done _ _ c.loop-i.i c.loop-i.invariant (omega arith)
