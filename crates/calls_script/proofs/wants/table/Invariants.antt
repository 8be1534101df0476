-- As many entries are kept as there were turns: the next is kept so far from the first.
use Rattle.std.proofs.Common.{◌≡◌, ◌+◌}
use Rattle.calls_script.proofs.wants.table.Given as goal

abbrev pub invariant-loop-i : goal.invariant-loop-i
invariant-loop-i l = l.at ≡ l.k + l._i
