-- The count grows by one where a cell has the label.
use Rattle.std.proofs.Common.{◌≡◌, sym, arith}
use Rattle.lists.proofs.Marked.{count_most}
use Rattle.cutting_pieces.proofs.Turns.{count-start, count_turn}
use Rattle.cutting_pieces.proofs.cells.count_cells.Goals as goal

pub loop-c-init : goal.loop-c-init
loop-c-init c = sym (count-start _)

pub one_more-n-requires : goal.one_more-n-requires
one_more-n-requires c = let i = c.loop-c.invariant in omega (arith, count_most)

pub loop-c-preserved : goal.loop-c-preserved
loop-c-preserved c = count_turn _ _ c.loop-c.invariant c.is_in.ensures c.one_more-n.ensures

pub returns : goal.returns
returns c = let e : c.loop-c.c ≡ c.args.cells = omega arith in rw e at c.loop-c.invariant
