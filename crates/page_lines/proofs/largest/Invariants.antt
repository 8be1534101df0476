-- After so many turns the largest of the first volumes.
use Rattle.std.proofs.Common.{◌≡◌}
use Rattle.page_lines.specs.Lines.{largest}
use Rattle.page_lines.proofs.largest.Given as goal

abbrev pub invariant-loop-volume : goal.invariant-loop-volume
invariant-loop-volume l = l.most ≡ largest l.volume-index l.volumes
