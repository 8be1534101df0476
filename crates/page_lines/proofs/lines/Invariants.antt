-- After i turns the lines of the open ones of i cells are put.
use Rattle.std.proofs.Common.{◌≡◌, ◌+◌, length}
use Rattle.text.specs.Lines.{Puts, pieces}
use Rattle.public_marks.specs.Marks.{is_open}
use Rattle.page_lines.specs.Lines.{line_if}
use Rattle.page_lines.proofs.lines.Given as goal

abbrev pub invariant-loop-i : goal.invariant-loop-i
invariant-loop-i l =
    (length l.lent ≡ length l.fn.lent)
    × Puts l.fn.lent 0 (pieces l.i (λ j. line_if l.volumes l.masses (is_open l.marks) l.places (l.first + j))) l.at l.lent
