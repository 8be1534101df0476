-- One entry more is written.
use Rattle.lists.proofs.Turns.{turn_in}
use Rattle.lists.proofs.Tables.{over-start, over-step}
use Rattle.record_sections.proofs.read_column.Goals as goal

pub loop-i-init : goal.loop-i-init
loop-i-init c = over-start _ _

pub loop-i-preserved : goal.loop-i-preserved
loop-i-preserved c = over-step _ _ _ (turn_in c.loop-i-test.true c.requires.fact.2) c.loop-i.invariant c.read_bits.ensures
