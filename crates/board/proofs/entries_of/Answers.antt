-- Each turn writes one entry.
use Rattle.std.proofs.Common.{◌≡◌, refl, arith}
use Rattle.lists.proofs.Tables.{over-start, over-step}
use Rattle.board.specs.Board.{shown}
use Rattle.board.proofs.entries_of.Goals as goal

pub loop-i-init : goal.loop-i-init
loop-i-init c = over-start _ _

pub loop-i-preserved : goal.loop-i-preserved
unfolding shown
loop-i-preserved c = over-step _ _ c.loop-i.i (omega arith) c.loop-i.invariant refl

pub returns : goal.returns
returns c = let e : c.loop-i.i ≡ c.args.ranking.used = omega arith in rw e at c.loop-i.invariant
