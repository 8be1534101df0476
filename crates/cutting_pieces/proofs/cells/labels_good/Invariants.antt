-- The scan for 23: fine up to the cell it has come to.
use Rattle.std.proofs.Common.{◌≡◌, leb, get_or}
use Rattle.model.specs.Causes.{fine, each}
use Rattle.cutting_pieces.proofs.cells.labels_good.Given as goal

abbrev pub invariant-loop-c : goal.invariant-loop-c
invariant-loop-c l = each 23 l.c (λ k. leb (get_or l.labels k 0) 1) ≡ fine
