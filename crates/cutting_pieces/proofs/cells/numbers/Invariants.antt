-- The count of the cells that were met, and each one's number.
use Rattle.std.proofs.Common.{◌≡◌}
use Rattle.lists.specs.Table.{table, over}
use Rattle.lists.specs.Marked.{count}
use Rattle.cutting_pieces.specs.Pieces.{has_label}
use Rattle.cutting_pieces.proofs.cells.numbers.Given as goal

abbrev pub invariant-loop-c : goal.invariant-loop-c
invariant-loop-c l = record {
  met : l.n ≡ count l.c (has_label l.labels l.part);
  written : l.out ≡ over (table l.c (λ k. count k (has_label l.labels l.part))) l.initial.out;
}
