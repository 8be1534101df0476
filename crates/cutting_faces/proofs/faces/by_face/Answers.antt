-- Each turn puts the entry of one face, or none.
use Rattle.std.proofs.Common.{◌≡◌, ◌<◌, length, sym, arith}
use Rattle.lists.proofs.Marked.{count_most}
use Rattle.cutting_pieces.specs.Pieces.{touching_at}
use Rattle.cutting_pieces.proofs.Turns.{count-start, count_turn, picked-start, picked-turn}
use Rattle.cutting_faces.proofs.faces.by_face.Goals as goal

pub loop-f-init : goal.loop-f-init
loop-f-init g c = record { met = sym (count-start _); written = λ entry_at h. picked-start _ _ _ }

pub keep-at-requires : goal.keep-at-requires
keep-at-requires g c m = let i = c.loop-f.invariant.met in omega (arith, count_most)

pub loop-f-preserved : goal.loop-f-preserved
loop-f-preserved g c =
    let i = c.loop-f.invariant in
    let m = c.touches-marked.ensures in
    let touches = touching_at c.args.labels.now c.args.part c.args.firsts.now c.args.seconds.now in
    let lt : c.loop-f.f < length c.args.out.now = omega arith in record {
      met = count_turn touches _ i.met m c.keep-at.ensures.0;
      written = λ entry_at h. picked-turn touches _ _ c.entry.result _ _ _ lt i.met m (h c.loop-f.f c.loop-f-test.true _ c.entry.ensures) (i.written entry_at h) c.keep-at.ensures.1;
    }

pub returns-clause-value : goal.returns-clause-value
returns-clause-value g c = let e : c.loop-f.f ≡ c.args.faces = omega arith in rw e at c.loop-f.invariant.met

pub returns-clause-out_after : goal.returns-clause-out_after
returns-clause-out_after g c entry_at h = let e : c.loop-f.f ≡ c.args.faces = omega arith in rw e at c.loop-f.invariant.written entry_at h
