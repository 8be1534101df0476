-- How each of its tests decides.
use Rattle.charge_totals.proofs.Laws.{nothing-fits, past-ceiling, room-left}
use Rattle.charge_totals.proofs.gain_fits.Goals as goal

pub returns-then-gain-eq0 : goal.returns-then-gain-eq0
returns-then-gain-eq0 c = nothing-fits _ _ c.if-gain-eq0.true

pub returns-then-entry-gt-MAX_TOTAL : goal.returns-then-entry-gt-MAX_TOTAL
returns-then-entry-gt-MAX_TOTAL c = past-ceiling _ _ c.if-gain-eq0.false c.if-entry-gt-MAX_TOTAL.true

pub returns : goal.returns
returns c = room-left _ _ c.if-gain-eq0.false c.if-entry-gt-MAX_TOTAL.false
