-- The count is that of the rows passed, and at most their number.
use Rattle.std.proofs.Common.{◌≡◌}
use Rattle.record_sections.specs.Sections.{marked, those}
use Rattle.record_sections.proofs.count_marked.Given as goal

abbrev pub invariant-loop-i : goal.invariant-loop-i
invariant-loop-i l = l.count ≡ those (marked l.mark l.marks) l.i
