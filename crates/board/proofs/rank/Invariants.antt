-- The ranking is that of the open cells before the one it has come to.
use Rattle.public_marks.specs.Marks.{is_open}
use Rattle.board.proofs.Listed.{RankedTo}
use Rattle.board.proofs.rank.Given as goal

abbrev pub invariant-loop-c : goal.invariant-loop-c
invariant-loop-c l = RankedTo l.volumes l.masses (is_open l.marks) l.cells l.c l.ranking.used l.ranking.ranks
