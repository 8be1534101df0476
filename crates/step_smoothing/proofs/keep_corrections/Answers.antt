-- The face's entry stands in work as it stood at the start, so what is asked and what comes out are of it (`keep-asks`, `keep-turn`).
use Rattle.std.proofs.Common.{arith}
use Rattle.step_smoothing.specs.Corrections.{ends_of}
use Rattle.step_smoothing.proofs.KeepLaws.{keep-start, keep-asks, keep-turn}
use Rattle.step_smoothing.proofs.keep_corrections.Goals as goal

pub loop-f-init : goal.loop-f-init
loop-f-init c = keep-start _ _

pub keep_at-requires : goal.keep_at-requires
keep_at-requires c =
    let l = c.loop-f in
    rw (l.invariant.rest_at l.f (omega arith))
    (keep-asks (ends_of c.args.cells c.args.faces c.args.firsts.now c.args.seconds.now) c.args.work.now c.requires.corrections_in c.requires.uncounted
    l.f c.loop-f-test.true l.work l.invariant)

pub loop-f-preserved : goal.loop-f-preserved
loop-f-preserved c =
    let l = c.loop-f in
    keep-turn (ends_of c.args.cells c.args.faces c.args.firsts.now c.args.seconds.now) c.args.work.now c.requires.corrections_in c.requires.uncounted
    l.f c.loop-f-test.true l.work l.invariant _ (rw (l.invariant.rest_at l.f (omega arith)) at c.keep_at.ensures)
