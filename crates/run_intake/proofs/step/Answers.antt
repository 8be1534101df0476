-- The head among what is held asks for the rest; both askings keep what was held.
use Rattle.std.proofs.Common.{arith}
use Rattle.record_bits.specs.Layout.{bytes_for}
use Rattle.run_intake.proofs.Room.{no-head, room-left}
use Rattle.run_intake.proofs.Ahead.{kept-twice, head-failed, record-taken}
use Rattle.run_intake.proofs.step.Goals as goal

pub returns-then-head : goal.returns-then-head
unfolding bytes_for
returns-then-head c =
    let e = c.hold-head.ensures in
    (e.0, head-failed _ _ (no-head _ _ _ _) c.if-head.true e.0 e.1)

pub hold-requires : goal.hold-requires
hold-requires c =
    let k = c.hold-head.ensures in
    let room = room-left _ _ c.still_needed.ensures.1 (omega (arith, k.1.taken)) in (
      omega (arith, k.0.begins, k.0.ends),
      k.0.within,
      omega (arith, room, c.requires.2, c.hold-head.auto.buffer),
      omega (arith, k.0.fewer, c.requires.3),
    )

pub returns : goal.returns
unfolding bytes_for
returns c =
    let k = c.hold-head.ensures in
    let l = c.hold.ensures in (
      kept-twice c.requires.1 k.0 l.0,
      record-taken _ _ (no-head _ _ _ _) c.requires.1 k.0 k.1 c.step_length-answer.ensures c.still_needed.ensures.0 l.0 l.1,
    )
