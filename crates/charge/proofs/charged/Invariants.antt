-- After i turns the first i bands are charged, up to where the total or the last of them ends.
use Rattle.std.proofs.Common.{◌≡◌, ◌*◌, ◌≤◌, min}
use Rattle.charge.specs.Charge.{max_price, begin_of, charge_sum}
use Rattle.charge.proofs.charged.Given as goal

abbrev pub invariant-loop-i : goal.invariant-loop-i
invariant-loop-i l =
    (l.from ≡ min l.total (begin_of l.ends l.i)) × (l.sum ≡ charge_sum l.ends l.prices l.i l.total) × (l.sum ≤ l.from * max_price)
