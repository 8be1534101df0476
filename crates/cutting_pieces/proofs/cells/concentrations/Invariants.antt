-- The raised concentrations of the cells it has come to.
use Rattle.std.proofs.Common.{◌≡◌, ◌+◌, ◌/◌, get_or}
use Rattle.lists.specs.Table.{table, over}
use Rattle.cutting_pieces.proofs.cells.concentrations.Given as goal

abbrev pub invariant-loop-c : goal.invariant-loop-c
invariant-loop-c l = l.out ≡ over (table l.c (λ k. (get_or l.masses k 0 + get_or l.releases k 0) / get_or l.volumes k 0)) l.initial.out
