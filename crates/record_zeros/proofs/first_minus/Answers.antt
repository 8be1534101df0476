-- What is said of a face's sign and size is whether it is a minus of size 0.
use Rattle.std.proofs.Common.{sym, ◌∙◌, arith, below_more}
use Rattle.record_zeros.proofs.ZeroLaws.{minus-at}
use Rattle.record_zeros.proofs.first_minus.Goals as goal

pub returns-then-minus_zero : goal.returns-then-minus_zero
returns-then-minus_zero c = record {
  end = omega arith;
  plain = c.loop-f.invariant;
  minus = λ m. minus-at _ _ _ _ m ∙ sym c.minus_zero.ensures ∙ c.if-minus_zero.true;
}

pub loop-f-preserved : goal.loop-f-preserved
loop-f-preserved c = below_more _ _ c.loop-f.invariant (minus-at _ _ _ _ c.loop-f-test.true ∙ sym c.minus_zero.ensures ∙ c.if-minus_zero.false)
