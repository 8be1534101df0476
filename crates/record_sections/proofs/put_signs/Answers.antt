-- One sign more: a row's stride is one bit or more.
use Rattle.std.proofs.Common.{refl, ◌∙◌}
use Rattle.record_sections.proofs.Columns.{column-turn, row_apart}
use Rattle.record_sections.proofs.put_signs.Goals as goal

pub loop-i-preserved : goal.loop-i-preserved
loop-i-preserved c =
    column-turn c.loop-i.invariant refl c.write_bits.ensures (c.sign-s.ensures ∙ rw c.is_negative_at.ensures)
    (λ i m _. row_apart c.args.first c.args.stride 1 i c.loop-i.i c.requires.le_stride.0 m)
