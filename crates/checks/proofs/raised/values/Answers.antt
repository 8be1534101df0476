-- A scan for the first cell whose raised concentration is above the ceiling (the `scan-` laws).
use Rattle.model.proofs.Verdicts.{scan-start, scan-pass, scan-hit}
use Rattle.checks.proofs.raised.values.Goals as goal

pub loop-c-init : goal.loop-c-init
loop-c-init c = scan-start _ _

pub returns-then-not-raised_fits : goal.returns-then-not-raised_fits
returns-then-not-raised_fits c = scan-hit _ _ _ _ c.loop-c-test.true c.loop-c.invariant c.raised_fits.ensures c.if-not-raised_fits.true

pub loop-c-preserved : goal.loop-c-preserved
loop-c-preserved c = scan-pass _ _ _ c.loop-c.invariant c.raised_fits.ensures c.if-not-raised_fits.false
