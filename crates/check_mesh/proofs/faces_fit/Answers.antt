-- Each face that is passed meets 4 and 5 both, so that both scans are fine at the end. Where one does not, nothing is said.
use Rattle.model.proofs.Verdicts.{scan-start, scan-pass}
use Rattle.check_mesh.proofs.faces_fit.Goals as goal

pub loop-f-init : goal.loop-f-init
loop-f-init c = (scan-start _ _, scan-start _ _)

pub loop-f-preserved : goal.loop-f-preserved
loop-f-preserved c = (
  scan-pass _ _ _ c.loop-f.invariant.0 c.ends_fit.ensures c.if-not-ends_fit.false,
  scan-pass _ _ _ c.loop-f.invariant.1 c.spacing_fits.ensures c.if-not-spacing_fits.false,
)
