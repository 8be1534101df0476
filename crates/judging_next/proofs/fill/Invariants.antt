-- The cells passed have their next masses, the rest of the table is as lent.
use Rattle.std.proofs.Common.{◌≡◌}
use Rattle.lists.specs.Table.{table, over}
use Rattle.judging_bounds.specs.Bounds.{next_at, entry}
use Rattle.judging_next.proofs.fill.Given as goal

abbrev pub invariant-loop-c : goal.invariant-loop-c
invariant-loop-c l = l.next ≡ over (table l.c (next_at l.masses l.releases (entry l.enters) (entry l.leaves))) l.initial.next
