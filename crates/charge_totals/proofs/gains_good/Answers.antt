-- A scan for the first face that would gain too much (the `scan-` laws).
use Rattle.model.proofs.Verdicts.{scan-start, scan-pass, scan-hit}
use Rattle.charge_totals.specs.Totals.{gain_good}
use Rattle.charge_totals.proofs.gains_good.Goals as goal

pub loop-f-init : goal.loop-f-init
loop-f-init c = scan-start _ _

pub returns-then-not-gain_fits : goal.returns-then-not-gain_fits
unfolding gain_good
returns-then-not-gain_fits c =
    let said = rw c.gain_at.ensures at c.gain_fits.ensures in
    scan-hit _ _ _ _ c.loop-f-test.true c.loop-f.invariant said c.if-not-gain_fits.true

pub loop-f-preserved : goal.loop-f-preserved
unfolding gain_good
loop-f-preserved c =
    let said = rw c.gain_at.ensures at c.gain_fits.ensures in
    scan-pass _ _ _ c.loop-f.invariant said c.if-not-gain_fits.false
