-- The scan for 3 refuses at the first cell that is not fine (the `scan-` laws).
use Rattle.model.proofs.Verdicts.{scan-start, scan-pass, scan-hit}
use Rattle.check_mesh.proofs.volumes_good.Goals as goal

pub loop-c-init : goal.loop-c-init
loop-c-init c = scan-start _ _

pub returns-then-not-between : goal.returns-then-not-between
returns-then-not-between c = scan-hit _ _ _ _ c.loop-c-test.true c.loop-c.invariant c.between.ensures c.if-not-between.true

pub loop-c-preserved : goal.loop-c-preserved
loop-c-preserved c = scan-pass _ _ _ c.loop-c.invariant c.between.ensures c.if-not-between.false
