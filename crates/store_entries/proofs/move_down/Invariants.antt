-- Entries from i on are as they were when entry i takes the one n further on.
use Rattle.std.proofs.Common.{◌≡◌, ◌+◌, get_or}
use Rattle.lists.specs.Table.{table, over}
use Rattle.store_entries.proofs.move_down.Given as goal

abbrev pub invariant-loop-i : goal.invariant-loop-i
invariant-loop-i l = l.part ≡ over (table l.i (λ k. get_or l.fn.part (l.n + k) 0)) l.fn.part
