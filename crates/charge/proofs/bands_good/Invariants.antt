-- The scan for 25, fine up to the band it has come to; where that band begins is carried along.
use Rattle.std.proofs.Common.{◌≡◌}
use Rattle.model.specs.Causes.{fine, each}
use Rattle.charge.specs.Charge.{begin_of, band_good}
use Rattle.charge.proofs.bands_good.Given as goal

abbrev pub invariant-loop-i : goal.invariant-loop-i
invariant-loop-i l = (l.begin ≡ begin_of l.ends l.i) × (each 25 l.i (band_good l.ends l.prices l.bands) ≡ fine)
