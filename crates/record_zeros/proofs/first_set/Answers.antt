-- A bit that is read as 1 is set, and one that is not is 0.
use Rattle.std.proofs.Common.{sym, ◌∙◌, arith}
use Rattle.record_bits.proofs.Fields.{one_bit}
use Rattle.record_zeros.proofs.ZeroLaws.{clear-more}
use Rattle.record_zeros.proofs.first_set.Goals as goal

pub returns-then-read_bits-eq1 : goal.returns-then-read_bits-eq1
returns-then-read_bits-eq1 c = record {
  start = omega arith;
  end = omega arith;
  clear = c.loop-i.invariant;
  set = λ _. sym (one_bit _ _) ∙ sym c.read_bits.ensures ∙ c.if-read_bits-eq1.true;
}

pub loop-i-preserved : goal.loop-i-preserved
loop-i-preserved c = clear-more _ _ _ c.loop-i.invariant c.read_bits.ensures c.if-read_bits-eq1.false
