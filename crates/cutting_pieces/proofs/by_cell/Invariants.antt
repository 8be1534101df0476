-- The place is how many cells of the part were met, and the table is what was picked of them.
use Rattle.std.proofs.Common.{◌≡◌, get_or}
use Rattle.lists.specs.Table.{over}
use Rattle.lists.specs.Marked.{count, picked}
use Rattle.cutting_pieces.specs.Pieces.{has_label}
use Rattle.cutting_pieces.proofs.by_cell.Given as goal

abbrev pub invariant-loop-c : goal.invariant-loop-c
invariant-loop-c l = record {
  met : l.at ≡ count l.c (has_label l.labels l.part);
  written : l.out ≡ over (picked l.c (has_label l.labels l.part) (λ k. get_or l.entries k 0)) l.initial.out;
}
