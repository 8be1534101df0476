-- A row's field touches none of the rows put before it, since a stride is at least a width.
use Rattle.std.proofs.Common.{true, ◌+◌, ◌*◌, get_or}
use Rattle.record_sections.specs.Columns.{PutColumn}
use Rattle.record_sections.proofs.put_column.Given as goal

abbrev pub invariant-loop-i : goal.invariant-loop-i
invariant-loop-i l = PutColumn l.fn.bytes l.i (λ _. true) (λ k. l.first + k * l.stride) l.width (λ k. get_or l.values k 0) l.bytes
