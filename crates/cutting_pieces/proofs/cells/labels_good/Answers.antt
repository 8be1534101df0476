-- A scan for the first cell whose label is another (the `scan-` laws).
use Rattle.std.proofs.Common.{refl}
use borrow.Author.Tests.{lt-leb, le-leb}
use Rattle.model.proofs.Verdicts.{scan-start, scan-pass, scan-hit, scan-end}
use Rattle.cutting_pieces.proofs.cells.labels_good.Goals as goal

pub loop-c-init : goal.loop-c-init
loop-c-init c = scan-start _ _

pub returns-then-labels-c-gt1 : goal.returns-then-labels-c-gt1
returns-then-labels-c-gt1 c = scan-hit _ _ _ _ c.loop-c-test.true c.loop-c.invariant refl (lt-leb _ _ c.if-labels-c-gt1.true)

pub loop-c-preserved : goal.loop-c-preserved
loop-c-preserved c = scan-pass _ _ _ c.loop-c.invariant refl (le-leb _ _ c.if-labels-c-gt1.false)

pub returns : goal.returns
returns c = scan-end _ _ _ _ c.loop-c.auto.c-end c.loop-c-test.false c.loop-c.invariant
