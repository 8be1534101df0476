-- The tests answer with the kind; then the body's tables hold the record's columns (`step-filled`).
use Rattle.std.proofs.Common.{sym}
use Rattle.record_reading.proofs.BodyLaws.{step_room, step-filled}
use Rattle.record_reading.proofs.ReadLaws.{step-read-says, step-accepted}
use Rattle.record_reading.proofs.read_step.Goals as goal

pub slice_bounds-step-count : goal.slice_bounds-step-count
slice_bounds-step-count c =
    let k = step-read-says _ _ _ _ _ _ _ _ (sym c.in_ok-kind.ensures) in
    (step_room _ _ _ c.args.bytes.now k.head.few_cells k.head.few_faces k.head.lent k.tables).0

pub slice_bounds-step-start : goal.slice_bounds-step-start
slice_bounds-step-start c =
    let k = step-read-says _ _ _ _ _ _ _ _ (sym c.in_ok-kind.ensures) in
    (step_room _ _ _ c.args.bytes.now k.head.few_cells k.head.few_faces k.head.lent k.tables).0

pub step-requires-2 : goal.step-requires-2
step-requires-2 c =
    let k = step-read-says _ _ _ _ _ _ _ _ (sym c.in_ok-kind.ensures) in
    rw k.kind_is (step_room _ _ _ c.args.bytes.now k.head.few_cells k.head.few_faces k.head.lent k.tables).1

pub returns : goal.returns
returns c =
    let e = sym c.in_ok-kind.ensures in
    step-accepted e (step-filled c.args.cells c.args.faces c.args.seconds.now c.args.bytes.now
    (rw (step-read-says _ _ _ _ _ _ _ _ e).kind_is at c.step-2.ensures))
