-- Each face that is passed meets 7 and 8 both, so that both scans are fine at the end. Where one does not, nothing is said.
use Rattle.model.proofs.Verdicts.{scan-start, scan-pass}
use Rattle.check_water.proofs.faces_fit.Goals as goal

pub loop-f-init : goal.loop-f-init
loop-f-init c = (scan-start _ _, scan-start _ _)

pub loop-f-preserved : goal.loop-f-preserved
loop-f-preserved c =
    let outside-said = rw c.is_negative_at.ensures at c.outside_fits.ensures in
    let flux-said = rw c.size_at.ensures at c.flux_fits.ensures in (
      scan-pass _ _ _ c.loop-f.invariant.0 outside-said c.if-not-outside_fits.false,
      scan-pass _ _ _ c.loop-f.invariant.1 flux-said c.if-not-flux_fits.false,
    )
