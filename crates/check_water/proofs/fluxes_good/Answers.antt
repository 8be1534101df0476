-- The scan for 8 refuses at the first face that is not fine (the `scan-` laws).
use Rattle.model.proofs.Verdicts.{scan-start, scan-pass, scan-hit}
use Rattle.check_water.proofs.fluxes_good.Goals as goal

pub loop-f-init : goal.loop-f-init
loop-f-init c = scan-start _ _

pub returns-then-not-flux_fits : goal.returns-then-not-flux_fits
returns-then-not-flux_fits c =
    let said = rw c.size_at.ensures at c.flux_fits.ensures in
    scan-hit _ _ _ _ c.loop-f-test.true c.loop-f.invariant said c.if-not-flux_fits.true

pub loop-f-preserved : goal.loop-f-preserved
loop-f-preserved c =
    let said = rw c.size_at.ensures at c.flux_fits.ensures in
    scan-pass _ _ _ c.loop-f.invariant said c.if-not-flux_fits.false
