-- Each face fills an entry of each table with its own part of the row.
use Rattle.std.proofs.Common.{◌∙◌}
use Rattle.lists.proofs.Turns.{turn_in}
use Rattle.lists.proofs.Tables.{over-start, over-step}
use Rattle.record_bodies.proofs.Rows.{row_is}
use Rattle.record_bodies.proofs.read_faces.Goals as goal

pub loop-f-init : goal.loop-f-init
loop-f-init c = record { firsts_in = over-start _ _; seconds_in = over-start _ _; shares_in = over-start _ _; reaches_in = over-start _ _ }

pub loop-f-preserved : goal.loop-f-preserved
loop-f-preserved c =
    let v = c.loop-f.invariant in
    let h = c.loop-f-test.true in
    let r = row_is c.args.body.now c.args.first c.args.value c.loop-f.f c.read_bits-row.ensures in
    record {
      firsts_in = over-step _ _ _ (turn_in h c.requires.firsts_long) v.firsts_in (c.part.ensures ∙ r.0);
      seconds_in = over-step _ _ _ (turn_in h c.requires.seconds_long) v.seconds_in (c.part-in-loop-f.ensures ∙ r.1);
      shares_in = over-step _ _ _ (turn_in h c.requires.shares_long) v.shares_in (c.part-in-loop-f-2.ensures ∙ r.2);
      reaches_in = over-step _ _ _ (turn_in h c.requires.reaches_long) v.reaches_in (c.part-in-loop-f-3.ensures ∙ r.3);
    }
