-- A face that is tested is fine, and its flux is counted in the sums (`counted-turn`), which have room for one more.
use Rattle.std.proofs.Common.{arith, get_or, below_none, below_more}
use lib.IntN.{pos}
use Rattle.signed.specs.Sign.{is_negative, size}
use Rattle.check_passing.specs.Passing.{FaceFine}
use Rattle.check_passing.proofs.Laws.{sums-start, room-left, amounts-small, counted-turn}
use Rattle.check_passing.proofs.faces_fit.Goals as goal

pub loop-f-init : goal.loop-f-init
loop-f-init c = record {
  fine = below_none _;
  sums = sums-start c.args.firsts.now c.args.seconds.now c.args.fluxes.now c.args.cells c.args.sums.now c.requires.by_index;
}

pub count_face-requires-clause-room_left : goal.count_face-requires-clause-room_left
count_face-requires-clause-room_left c =
    let l = c.loop-f in
    room-left c.args.firsts.now c.args.seconds.now c.args.fluxes.now c.args.cells l.f l.sums (omega arith)
    (amounts-small c.args.firsts.now c.args.seconds.now c.args.fluxes.now c.args.cells l.f c.args.shares.now c.args.reaches.now c.args.outsides.now
    l.invariant.fine) l.invariant.sums

pub loop-f-preserved : goal.loop-f-preserved
loop-f-preserved c =
    let l = c.loop-f in
    let n = c.is_negative_at-inward.ensures in
    let z = c.size_at-size.ensures in
    let done = c.count_face.ensures c.if-not-count_face.false in
    record {
      fine = below_more (λ g. FaceFine c.args.cells (get_or c.args.firsts.now g 0) (get_or c.args.seconds.now g 0) (get_or c.args.shares.now g 0)
          (get_or c.args.reaches.now g 0)
          (is_negative (get_or c.args.fluxes.now g (pos 0))) (size (get_or c.args.fluxes.now g (pos 0))) (get_or c.args.outsides.now g 0)) l.f
          l.invariant.fine (rw (n, z) at done.0);
      sums = counted-turn c.args.firsts.now c.args.seconds.now c.args.fluxes.now c.args.cells l.f _ _ l.sums _ n z l.invariant.sums done.1;
    }
