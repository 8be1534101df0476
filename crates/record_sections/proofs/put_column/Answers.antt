-- One column more: the rows are as far apart as their fields are wide, or further.
use Rattle.std.proofs.Common.{refl}
use Rattle.record_sections.proofs.Columns.{column-turn, row_apart}
use Rattle.record_sections.proofs.put_column.Goals as goal

pub loop-i-preserved : goal.loop-i-preserved
loop-i-preserved c =
    column-turn c.loop-i.invariant refl c.write_bits.ensures refl
    (λ i m _. row_apart c.args.first c.args.stride c.args.width i c.loop-i.i c.requires.fact.1 m)
