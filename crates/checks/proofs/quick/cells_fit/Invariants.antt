-- Each cell that is passed meets 3, 6 and 18. Where one does not, nothing is said.
use Rattle.std.proofs.Common.{ℕ, ◌<◌, get_or}
use Rattle.checks.specs.Quick.{CellFine}
use Rattle.checks.proofs.quick.cells_fit.Given as goal

abbrev pub invariant-loop-c : goal.invariant-loop-c
invariant-loop-c l = (k : ℕ) → k < l.c → CellFine (get_or l.volumes k 0) (get_or l.masses k 0) (get_or l.releases k 0)
