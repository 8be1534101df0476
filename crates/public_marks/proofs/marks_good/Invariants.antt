-- A scan for the first cell with another mark: those before it have one of the two.
use Rattle.std.proofs.Common.{◌≡◌}
use Rattle.model.specs.Causes.{fine, each}
use Rattle.public_marks.specs.Marks.{mark_good}
use Rattle.public_marks.proofs.marks_good.Given as goal

abbrev pub invariant-loop-c : goal.invariant-loop-c
invariant-loop-c l = each 27 l.c (mark_good l.marks) ≡ fine
