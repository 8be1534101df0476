-- The entries come to are those passed, the rest of the table is as lent.
use Rattle.std.proofs.Common.{◌≡◌, get_or}
use Rattle.lists.specs.Table.{table, over}
use Rattle.store_entries.proofs.copy.Given as goal

abbrev pub invariant-loop-i : goal.invariant-loop-i
invariant-loop-i l = l.to ≡ over (table l.i (λ k. get_or l.from k 0)) l.fn.to
