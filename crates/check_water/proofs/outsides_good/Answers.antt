-- The scan for 7 refuses at the first face that is not fine (the `scan-` laws).
use Rattle.model.proofs.Verdicts.{scan-start, scan-pass, scan-hit}
use Rattle.check_water.proofs.outsides_good.Goals as goal

pub loop-f-init : goal.loop-f-init
loop-f-init c = scan-start _ _

pub returns-then-not-outside_fits : goal.returns-then-not-outside_fits
returns-then-not-outside_fits c =
    let said = rw c.is_negative_at.ensures at c.outside_fits.ensures in
    scan-hit _ _ _ _ c.loop-f-test.true c.loop-f.invariant said c.if-not-outside_fits.true

pub loop-f-preserved : goal.loop-f-preserved
loop-f-preserved c =
    let said = rw c.is_negative_at.ensures at c.outside_fits.ensures in
    scan-pass _ _ _ c.loop-f.invariant said c.if-not-outside_fits.false
