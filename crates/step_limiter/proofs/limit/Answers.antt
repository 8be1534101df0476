-- What the limiter asks of a face, and what it leaves, are of the faces passed (`limited-turn`).
use Rattle.step_smoothing.specs.Corrections.{ends_of}
use Rattle.step_limiter.proofs.LimiterLaws.{limited-start, cut-asks, limited-turn}
use Rattle.step_limiter.proofs.limit.Goals as goal

pub loop-f-init : goal.loop-f-init
loop-f-init c = limited-start _ _ _ _ c.requires.next_long

pub limit_face-requires : goal.limit_face-requires
limit_face-requires c =
    let l = c.loop-f in
    cut-asks (ends_of c.args.cells c.args.faces c.args.firsts.now c.args.seconds.now) c.args.work.now c.args.next.now c.args.moved.now c.requires
    l.f c.loop-f-test.true l.next l.moved l.invariant

pub loop-f-preserved : goal.loop-f-preserved
loop-f-preserved c =
    let l = c.loop-f in
    limited-turn (ends_of c.args.cells c.args.faces c.args.firsts.now c.args.seconds.now) c.args.work.now c.args.next.now c.args.moved.now c.requires
    l.f c.loop-f-test.true l.next l.moved l.invariant _ _ c.limit_face.ensures
