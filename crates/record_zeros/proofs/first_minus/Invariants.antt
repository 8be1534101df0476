-- The faces passed have no minus of size 0.
use Rattle.record_zeros.specs.Scans.{NoMinus}
use Rattle.record_zeros.proofs.first_minus.Given as goal

abbrev pub invariant-loop-f : goal.invariant-loop-f
invariant-loop-f l = NoMinus l.bytes l.value l.faces l.f
