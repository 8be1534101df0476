-- Each turn writes the raised concentration of one cell.
use Rattle.std.proofs.Common.{◌≡◌, ◌<◌, length, arith}
use Rattle.lists.proofs.Tables.{over-start, over-step}
use Rattle.cutting_pieces.proofs.cells.concentrations.Goals as goal

pub loop-c-init : goal.loop-c-init
loop-c-init c = over-start _ _

pub loop-c-preserved : goal.loop-c-preserved
loop-c-preserved c =
    let h : c.loop-c.c < length c.args.out.now = omega arith in
    over-step _ c.args.out.now c.loop-c.c h c.loop-c.invariant c.raised_concentration.ensures

pub returns : goal.returns
returns c = let e : c.loop-c.c ≡ c.args.cells = omega arith in rw e at c.loop-c.invariant
