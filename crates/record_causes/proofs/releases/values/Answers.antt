-- A scan's first state, its refusal and its turn.
use Rattle.std.proofs.Common.{rules}
use Rattle.model.proofs.Verdicts.{scan-start, scan-pass, scan-hit}
use Rattle.record_causes.proofs.releases.values.Goals as goal

pub loop-c-init : goal.loop-c-init
loop-c-init c = scan-start _ _

pub returns-then-not-release_fits : goal.returns-then-not-release_fits
returns-then-not-release_fits c = scan-hit _ _ _ _ (search rules) c.loop-c.invariant c.release_fits.ensures c.if-not-release_fits.true

pub loop-c-preserved : goal.loop-c-preserved
loop-c-preserved c = scan-pass _ _ _ c.loop-c.invariant c.release_fits.ensures c.if-not-release_fits.false
