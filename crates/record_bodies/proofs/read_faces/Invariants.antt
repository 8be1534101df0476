-- The faces passed are written, the rest of each table is as lent.
use Rattle.record_bodies.specs.Bodies.{FacesFilled}
use Rattle.record_bodies.proofs.read_faces.Given as goal

abbrev pub invariant-loop-f : goal.invariant-loop-f
invariant-loop-f l =
    FacesFilled l.value l.body l.first l.f l.fn.firsts l.fn.seconds l.fn.shares l.fn.reaches l.firsts l.seconds l.shares l.reaches
