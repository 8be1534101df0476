-- The scan for 9 refuses at the first cell of which the sums differ (the `scan-` laws).
use Rattle.std.proofs.Common.{refl, eq-eqb, ne_eqb}
use Rattle.model.proofs.Verdicts.{scan-start, scan-pass, scan-hit}
use Rattle.check_flows.proofs.balanced.Goals as goal

pub loop-c-init : goal.loop-c-init
loop-c-init c = scan-start _ _

pub returns-then-inflow-c : goal.returns-then-inflow-c
returns-then-inflow-c c = scan-hit _ _ _ _ c.loop-c-test.true c.loop-c.invariant refl (ne_eqb _ _ c.if-inflow-c.true)

pub loop-c-preserved : goal.loop-c-preserved
loop-c-preserved c = scan-pass _ _ _ c.loop-c.invariant refl (eq-eqb _ _ c.if-inflow-c.false)
