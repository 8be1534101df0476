-- A scan for the first band that is not as it should be (the `scan-` laws).
use Rattle.std.proofs.Common.{refl}
use Rattle.model.proofs.Verdicts.{scan-start, scan-pass, scan-hit}
use Rattle.charge.proofs.Laws.{begin-next, band-is}
use Rattle.charge.proofs.bands_good.Goals as goal

pub loop-i-init : goal.loop-i-init
loop-i-init c = (refl, scan-start _ _)

pub returns-then-not-band_fits : goal.returns-then-not-band_fits
returns-then-not-band_fits c =
    let good = band-is c.args.ends.now c.args.prices.now c.args.bands c.loop-i.i c.loop-i.invariant.0 c.band_fits.ensures in
    scan-hit _ _ _ _ c.loop-i-test.true c.loop-i.invariant.1 good c.if-not-band_fits.true

pub loop-i-preserved : goal.loop-i-preserved
loop-i-preserved c =
    let good = band-is c.args.ends.now c.args.prices.now c.args.bands c.loop-i.i c.loop-i.invariant.0 c.band_fits.ensures in
    (begin-next c.args.ends.now c.loop-i.i, scan-pass _ _ _ c.loop-i.invariant.1 good c.if-not-band_fits.false)
