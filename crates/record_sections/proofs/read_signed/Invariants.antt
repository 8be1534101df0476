-- The entries that no three at a time reached are read one by one; the rest of the table is as lent.
use Rattle.std.proofs.Common.{◌≡◌, ◌+◌, ◌*◌}
use Rattle.std.specs.Prelude.{eqb}
use Rattle.lists.specs.Table.{table, over}
use Rattle.signed.specs.Sign.{with_sign}
use Rattle.record_bits.specs.Field.{bits_at}
use Rattle.record_sections.proofs.read_signed.Given as goal

abbrev pub invariant-loop-i : goal.invariant-loop-i
invariant-loop-i l = l.out ≡ over (table l.i (λ k. with_sign (eqb (bits_at l.bytes (l.first + k * (1 + l.width)) 1) 1) (bits_at l.bytes (l.first + k * (1 + l.width) + 1) l.width))) l.fn.out
