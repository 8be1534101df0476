-- Fine up to the cell it has come to, and refused at the first that is not (the `scan-` laws).
use Rattle.std.proofs.Common.{arith}
use Rattle.model.proofs.Verdicts.{scan-start, scan-pass, scan-hit, scan-end}
use Rattle.judging_bounds.proofs.bounds_good.Goals as goal

pub loop-c-init : goal.loop-c-init
loop-c-init c = scan-start _ _

pub returns-then-not-cell_fits : goal.returns-then-not-cell_fits
returns-then-not-cell_fits c = scan-hit _ _ _ _ c.loop-c-test.true c.loop-c.invariant c.cell_fits.ensures c.if-not-cell_fits.true

pub loop-c-preserved : goal.loop-c-preserved
loop-c-preserved c = scan-pass _ _ _ c.loop-c.invariant c.cell_fits.ensures c.if-not-cell_fits.false

pub returns : goal.returns
returns c = scan-end _ _ _ _ (omega arith) (omega arith) c.loop-c.invariant
