-- Each turn adds a face's flux at the end that the water reaches and at the end that it leaves: the tables stay sums over the faces passed.
use Rattle.std.proofs.Common.{◌≡◌, arith}
use Rattle.lists.specs.Fold.{sum}
use Rattle.model.specs.Mesh.{incoming, outgoing}
use Rattle.check_flows.proofs.Gathering.{in-asks, in-turn, out-asks, out-turn}
use Rattle.check_flows.proofs.gather.Goals as goal

pub loop-f-init : goal.loop-f-init
unfolding sum
loop-f-init c = c.requires.inflow_value

pub raise-requires : goal.raise-requires
raise-requires c =
    in-asks c.args.faces c.args.firsts.now c.args.seconds.now c.args.fluxes.now c.requires.faces_le_max_faces.0 c.requires.faces_fit c.loop-f.f
    c.loop-f-test.true
    _ _ c.is_negative_at-negative.ensures c.size_at-size.ensures _ _ c.receiver.ensures c.loop-f.invariant.0

pub raise-requires-in-loop-f : goal.raise-requires-in-loop-f
raise-requires-in-loop-f c =
    out-asks c.args.faces c.args.firsts.now c.args.seconds.now c.args.fluxes.now c.requires.faces_le_max_faces.0 c.requires.faces_fit c.loop-f.f
    c.loop-f-test.true
    _ _ c.is_negative_at-negative.ensures c.size_at-size.ensures _ _ c.giver.ensures c.loop-f.invariant.1

pub loop-f-preserved : goal.loop-f-preserved
loop-f-preserved c = (
  in-turn c.args.faces c.args.firsts.now c.args.seconds.now c.args.fluxes.now c.requires.faces_le_max_faces.0 c.requires.faces_fit c.loop-f.f
      c.loop-f-test.true
      _ _ c.is_negative_at-negative.ensures c.size_at-size.ensures _ _ c.receiver.ensures c.loop-f.invariant.0 _ c.raise.ensures,
  out-turn c.args.faces c.args.firsts.now c.args.seconds.now c.args.fluxes.now c.requires.faces_le_max_faces.0 c.requires.faces_fit c.loop-f.f
      c.loop-f-test.true
      _ _ c.is_negative_at-negative.ensures c.size_at-size.ensures _ _ c.giver.ensures c.loop-f.invariant.1 _ c.raise-in-loop-f.ensures,
)

pub returns : goal.returns
unfolding incoming outgoing
returns c =
    let e : c.loop-f.f ≡ c.args.faces = omega arith in
    (rw e at c.loop-f.invariant.0, rw e at c.loop-f.invariant.1)
