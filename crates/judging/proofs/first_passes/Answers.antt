-- The second pass starts from what the first has left: as in a step (transport's `advance_whole`).
use Rattle.std.proofs.Common.{arith}
use Rattle.model.specs.Mesh.{mesh_of}
use Rattle.model.specs.Causes.{water_of}
use Rattle.step_carrying.specs.Carrying.{input_from}
use Rattle.step_carrying.proofs.CarryLaws.{carried-to-start}
use Rattle.transport.proofs.Advances.{raised-small}
use Rattle.judging.proofs.first_passes.Goals as goal

pub concentrations-requires-clause-by_index : goal.concentrations-requires-clause-by_index
concentrations-requires-clause-by_index c k h =
    let M = mesh_of c.args.cells c.args.faces c.args.volumes.now c.args.firsts.now c.args.seconds.now c.args.shares.now c.args.reaches.now in
    let r = c.requires.ready.0 in
    (r.fit.volume_some k h, raised-small M c.args.masses.now (water_of c.args.fluxes.now c.args.outsides.now c.args.releases.now) r k h)

pub carry-requires : goal.carry-requires
carry-requires c =
    let S = input_from c.args.cells c.args.faces c.args.volumes.now c.args.firsts.now c.args.seconds.now c.args.shares.now c.args.reaches.now
    c.args.masses.now c.args.fluxes.now c.args.outsides.now c.args.releases.now in
    record {
      unseen = record { volumes = c.args.volumes.now; masses = S.masses; q = S.q };
      ready = c.requires.ready.0;
      so_far = carried-to-start S.mesh S.masses c.args.fluxes.now c.args.outsides.now _ _ _ _
          (omega (arith, c.requires.lengths, c.concentrations.auto)) c.requires.lengths.1 (omega (arith, c.requires.lengths, c.concentrations.auto))
          c.concentrations.ensures;
    }

pub returns : goal.returns
returns c =
    let S = input_from c.args.cells c.args.faces c.args.volumes.now c.args.firsts.now c.args.seconds.now c.args.shares.now c.args.reaches.now
    c.args.masses.now c.args.fluxes.now c.args.outsides.now c.args.releases.now in
    c.carry.ensures (record { volumes = c.args.volumes.now; masses = S.masses; q = S.q }) c.requires.ready.0
    (carried-to-start S.mesh S.masses c.args.fluxes.now c.args.outsides.now _ _ _ _
    (omega (arith, c.requires.lengths, c.concentrations.auto)) c.requires.lengths.1 (omega (arith, c.requires.lengths, c.concentrations.auto))
    c.concentrations.ensures)
