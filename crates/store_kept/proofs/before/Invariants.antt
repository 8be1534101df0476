-- After i turns none of the first i fields has the name.
use Rattle.store_kept.proofs.Named.{Searched}
use Rattle.store_kept.proofs.before.Given as goal

abbrev pub invariant-loop-i : goal.invariant-loop-i
invariant-loop-i l = Searched l.name l.cells l.store l.i
