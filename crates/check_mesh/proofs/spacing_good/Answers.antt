-- The scan for 5 refuses at the first face that is not fine (the `scan-` laws).
use Rattle.model.proofs.Verdicts.{scan-start, scan-pass, scan-hit}
use Rattle.check_mesh.proofs.spacing_good.Goals as goal

pub loop-f-init : goal.loop-f-init
loop-f-init c = scan-start _ _

pub returns-then-not-spacing_fits : goal.returns-then-not-spacing_fits
returns-then-not-spacing_fits c = scan-hit _ _ _ _ c.loop-f-test.true c.loop-f.invariant c.spacing_fits.ensures c.if-not-spacing_fits.true

pub loop-f-preserved : goal.loop-f-preserved
loop-f-preserved c = scan-pass _ _ _ c.loop-f.invariant c.spacing_fits.ensures c.if-not-spacing_fits.false
