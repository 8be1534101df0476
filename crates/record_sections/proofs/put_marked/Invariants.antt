-- The place is the first and as many widths as rows were marked so far; a row that is not marked moves nothing.
use Rattle.std.proofs.Common.{◌≡◌, ◌+◌, ◌*◌, get_or}
use Rattle.record_sections.specs.Sections.{marked, those}
use Rattle.record_sections.specs.Columns.{PutColumn}
use Rattle.record_sections.proofs.put_marked.Given as goal

abbrev pub invariant-loop-i : goal.invariant-loop-i
invariant-loop-i l = (l.at ≡ l.first + those (marked l.mark l.marks) l.i * l.width)
    × PutColumn l.fn.bytes l.i (marked l.mark l.marks) (λ k. l.first + those (marked l.mark l.marks) k * l.width) l.width (λ k. get_or l.values k 0) l.bytes
