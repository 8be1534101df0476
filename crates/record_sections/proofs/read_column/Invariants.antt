-- The rows passed are written, the rest of the table is as lent.
use Rattle.std.proofs.Common.{◌≡◌, ◌+◌, ◌*◌}
use Rattle.lists.specs.Table.{table, over}
use Rattle.record_bits.specs.Field.{bits_at}
use Rattle.record_sections.proofs.read_column.Given as goal

abbrev pub invariant-loop-i : goal.invariant-loop-i
invariant-loop-i l = l.out ≡ over (table l.i (λ k. bits_at l.bytes (l.first + k * l.stride) l.width)) l.fn.out
