-- A scan for the first face whose claim is not as said (the `scan-` laws).
use Rattle.model.proofs.Verdicts.{scan-start, scan-pass, scan-hit}
use Rattle.judging_claims.proofs.claims_good.Goals as goal

pub loop-f-init : goal.loop-f-init
loop-f-init c = scan-start _ _

pub returns-then-not-face_fits : goal.returns-then-not-face_fits
returns-then-not-face_fits c = scan-hit _ _ _ _ c.loop-f-test.true c.loop-f.invariant c.face_fits.ensures c.if-not-face_fits.true

pub loop-f-preserved : goal.loop-f-preserved
loop-f-preserved c = scan-pass _ _ _ c.loop-f.invariant c.face_fits.ensures c.if-not-face_fits.false
