-- The scan for 10 refuses at the first cell of which the sum is too large (the `scan-` laws).
use Rattle.std.proofs.Common.{refl, le-leb}
use Rattle.std.proofs.lemmas.Bool.{lt-leb}
use Rattle.model.proofs.Verdicts.{scan-start, scan-pass, scan-hit}
use Rattle.check_flows.proofs.outflow_fits.Goals as goal

pub loop-c-init : goal.loop-c-init
loop-c-init c = scan-start _ _

pub returns-then-volumes-c : goal.returns-then-volumes-c
returns-then-volumes-c c = scan-hit _ _ _ _ c.loop-c-test.true c.loop-c.invariant refl (lt-leb _ _ c.if-volumes-c.true)

pub loop-c-preserved : goal.loop-c-preserved
loop-c-preserved c = scan-pass _ _ _ c.loop-c.invariant refl (le-leb _ _ c.if-volumes-c.false)
