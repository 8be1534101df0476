-- Each band is charged from where the one before it ends, and no sum leaves 64 bits.
use Rattle.std.proofs.Common.{refl, arith}
use Rattle.charge.proofs.Laws.{more-asks, sum-none, sum-next, to-next}
use Rattle.charge.proofs.charged.Goals as goal

pub loop-i-init : goal.loop-i-init
loop-i-init c = (omega arith, sum-none _ _ _, omega arith)

pub more-sum-requires : goal.more-sum-requires
more-sum-requires c =
    more-asks c.args.ends.now c.args.prices.now c.args.bands c.requires.bands_value c.loop-i.i c.loop-i-test.true c.requires.bands_in_bounds.2
    c.loop-i.invariant.0 c.lesser-to.ensures refl c.loop-i.invariant.2

pub loop-i-preserved : goal.loop-i-preserved
loop-i-preserved c = (
  to-next c.args.ends.now c.args.prices.now c.args.total c.loop-i.i c.lesser-to.ensures,
  sum-next c.args.ends.now c.args.prices.now c.args.total c.loop-i.i c.loop-i.invariant.0 c.lesser-to.ensures refl c.loop-i.invariant.1
      c.more-sum.ensures.0,
  c.more-sum.ensures.1,
)
