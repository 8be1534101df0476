-- Each turn writes the entry of its cell (`over-step`).
use Rattle.std.proofs.Common.{arith}
use Rattle.lists.proofs.Tables.{over-start, over-step}
use Rattle.judging_next.proofs.fill.Goals as goal

pub loop-c-init : goal.loop-c-init
loop-c-init c = over-start _ _

pub loop-c-preserved : goal.loop-c-preserved
loop-c-preserved c = over-step _ _ _ (omega arith) c.loop-c.invariant c.next_of.ensures
