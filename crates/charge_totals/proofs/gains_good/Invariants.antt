-- The scan for 26: fine up to the face it has come to.
use Rattle.std.proofs.Common.{◌≡◌}
use Rattle.model.specs.Causes.{fine, each}
use Rattle.charge_totals.specs.Totals.{gain_good}
use Rattle.charge_totals.proofs.gains_good.Given as goal

abbrev pub invariant-loop-f : goal.invariant-loop-f
invariant-loop-f l = each 26 l.f (gain_good l.seconds l.moved l.totals) ≡ fine
