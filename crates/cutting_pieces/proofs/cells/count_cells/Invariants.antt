-- The count of the cells that were met.
use Rattle.std.proofs.Common.{◌≡◌}
use Rattle.lists.specs.Marked.{count}
use Rattle.cutting_pieces.specs.Pieces.{has_label}
use Rattle.cutting_pieces.proofs.cells.count_cells.Given as goal

abbrev pub invariant-loop-c : goal.invariant-loop-c
invariant-loop-c l = l.n ≡ count l.c (has_label l.labels l.part)
