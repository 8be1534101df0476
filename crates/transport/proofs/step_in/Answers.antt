-- As `step`; the tests have spent the counted entries of the next masses, which the passes write over.
use Rattle.std.proofs.Common.{sym, arith}
use Rattle.std.proofs.lemmas.Result.{err_from_is_err_and}
use Rattle.model.specs.Mesh.{mesh_of}
use Rattle.model.specs.Causes.{call_of}
use Rattle.model.specs.Step.{released_mass}
use Rattle.model.proofs.Accepted.{ready, passed, field-lent, call-lent}
use Rattle.transport.proofs.Promises.{refused-made, stepped-made, released-asks}
use Rattle.transport.proofs.step_in.Goals as goal

pub returns-in_err-check_step_in : goal.returns-in_err-check_step_in
returns-in_err-check_step_in c =
    let M = mesh_of c.args.cells c.args.faces c.args.volumes.now c.args.firsts.now c.args.seconds.now c.args.shares.now c.args.reaches.now in
    let k = call_of c.args.fluxes.now c.args.outsides.now c.args.next.now c.args.moved.now c.args.work.now c.args.releases.now in
    let p = err_from_is_err_and c.from_residual.result c.from_residual.ensures.1 in
    rw (p.1, p.2) (refused-made M c.args.masses.now k _ _ (sym c.in_err-check_step_in.ensures))

pub advance-carried-requires-clause-ready : goal.advance-carried-requires-clause-ready
advance-carried-requires-clause-ready c =
    let M = mesh_of c.args.cells c.args.faces c.args.volumes.now c.args.firsts.now c.args.seconds.now c.args.shares.now c.args.reaches.now in
    let k = call_of c.args.fluxes.now c.args.outsides.now c.args.next.now c.args.moved.now c.args.work.now c.args.releases.now in
    let v = sym c.in_ok-check_step_in.ensures in
    let p = passed M c.args.masses.now k v in
    let l = call-lent M c.args.masses.now k p.step_tables_fine in
    (ready M c.args.masses.now k v, field-lent M c.args.masses.now p.field_table_fine, l.releases_long)

pub advance-carried-requires-clause-lengths : goal.advance-carried-requires-clause-lengths
advance-carried-requires-clause-lengths c =
    let M = mesh_of c.args.cells c.args.faces c.args.volumes.now c.args.firsts.now c.args.seconds.now c.args.shares.now c.args.reaches.now in
    let k = call_of c.args.fluxes.now c.args.outsides.now c.args.next.now c.args.moved.now c.args.work.now c.args.releases.now in
    let v = sym c.in_ok-check_step_in.ensures in
    let p = passed M c.args.masses.now k v in
    let l = call-lent M c.args.masses.now k p.step_tables_fine in
    (omega (arith, l.nexts_long), l.moveds_long, l.work_long)

pub sum_of-released-requires : goal.sum_of-released-requires
sum_of-released-requires c =
    let M = mesh_of c.args.cells c.args.faces c.args.volumes.now c.args.firsts.now c.args.seconds.now c.args.shares.now c.args.reaches.now in
    let k = call_of c.args.fluxes.now c.args.outsides.now c.args.next.now c.args.moved.now c.args.work.now c.args.releases.now in
    let v = sym c.in_ok-check_step_in.ensures in
    released-asks M c.args.masses.now k v

pub returns : goal.returns
unfolding released_mass
returns c =
    let M = mesh_of c.args.cells c.args.faces c.args.volumes.now c.args.firsts.now c.args.seconds.now c.args.shares.now c.args.reaches.now in
    let k = call_of c.args.fluxes.now c.args.outsides.now c.args.next.now c.args.moved.now c.args.work.now c.args.releases.now in
    let v = sym c.in_ok-check_step_in.ensures in
    let p = passed M c.args.masses.now k v in
    let l = call-lent M c.args.masses.now k p.step_tables_fine in
    stepped-made M c.args.masses.now k _ _ _ _ _ v (omega (arith, l.nexts_long)) c.advance-carried.ensures c.sum_of-released.ensures
