-- Of a correction more than 0, the low-order q of its two ends decide whether it is kept (`drops`, `keeps`).
use Rattle.std.proofs.Common.{◌∙◌}
use Rattle.step_smoothing.proofs.KeepLaws.{none-there, drops, keeps}
use Rattle.step_smoothing.proofs.keep_at.Goals as goal

pub returns-then-size-eq0 : goal.returns-then-size-eq0
returns-then-size-eq0 c = none-there _ _ _ _ _ c.if-size-eq0.true

pub returns-then-to-from : goal.returns-then-to-from
returns-then-to-from c =
    drops _ _ _ _ _ c.if-size-eq0.false _ _ (rw c.end_to-giver.ensures at c.low_of-from.ensures) (rw c.end_to-receiver.ensures at c.low_of-to.ensures)
    c.if-to-from.true

pub returns : goal.returns
returns c =
    rw (c.end_to-receiver.ensures, c.end_to-giver.ensures) at c.count.ensures
    ∙ keeps _ _ _ _ _ c.if-size-eq0.false _ _ (rw c.end_to-giver.ensures at c.low_of-from.ensures) (rw c.end_to-receiver.ensures at c.low_of-to.ensures)
    c.if-to-from.false
