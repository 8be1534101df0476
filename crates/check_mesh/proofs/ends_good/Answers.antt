-- The scan for 4 refuses at the first face that is not fine (the `scan-` laws).
use Rattle.model.proofs.Verdicts.{scan-start, scan-pass, scan-hit}
use Rattle.check_mesh.proofs.ends_good.Goals as goal

pub loop-f-init : goal.loop-f-init
loop-f-init c = scan-start _ _

pub returns-then-not-ends_fit : goal.returns-then-not-ends_fit
returns-then-not-ends_fit c = scan-hit _ _ _ _ c.loop-f-test.true c.loop-f.invariant c.ends_fit.ensures c.if-not-ends_fit.true

pub loop-f-preserved : goal.loop-f-preserved
loop-f-preserved c = scan-pass _ _ _ c.loop-f.invariant c.ends_fit.ensures c.if-not-ends_fit.false
