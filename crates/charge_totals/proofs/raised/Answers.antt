-- What fits is at most the largest total.
use Rattle.std.proofs.Common.{arith}
use Rattle.charge_totals.proofs.Laws.{gain-small}
use Rattle.charge_totals.proofs.raised.Goals as goal

pub overflow_add-result : goal.overflow_add-result
overflow_add-result c = omega (arith, gain-small _ _ c.requires c.if-gain-eq0.false)
