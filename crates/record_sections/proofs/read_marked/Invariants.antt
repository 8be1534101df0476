-- The place is the first and as many widths as rows were marked so far; a row that is not marked reads 0.
use Rattle.std.proofs.Common.{◌≡◌, cond, ◌+◌, ◌*◌}
use Rattle.lists.specs.Table.{table, over}
use Rattle.record_bits.specs.Field.{bits_at}
use Rattle.record_sections.specs.Sections.{marked, those}
use Rattle.record_sections.proofs.read_marked.Given as goal

abbrev pub invariant-loop-i : goal.invariant-loop-i
invariant-loop-i l = (l.at ≡ l.first + those (marked l.mark l.marks) l.i * l.width)
    × (l.out ≡ over (table l.i (λ k. cond (marked l.mark l.marks k) (bits_at l.bytes (l.first + those (marked l.mark l.marks) k * l.width) l.width) 0)) l.fn.out)
