-- The tests come to the verdict; past them the step has all that acceptance says, and the passes give the promise.
use Rattle.std.proofs.Common.{sym}
use Rattle.std.proofs.lemmas.Result.{err_from_is_err_and}
use Rattle.model.specs.Mesh.{mesh_of}
use Rattle.model.specs.Causes.{call_of}
use Rattle.model.specs.Step.{released_mass}
use Rattle.model.proofs.Accepted.{ready, passed, field-lent, call-lent}
use Rattle.transport.specs.Promise.{scheme_of}
use Rattle.transport.proofs.Promises.{refused-promise, stepped-promise, released-asks}
use Rattle.transport.proofs.step.Goals as goal

pub returns-in_err-check_step : goal.returns-in_err-check_step
returns-in_err-check_step c =
    let M = mesh_of c.args.cells c.args.faces c.args.volumes.now c.args.firsts.now c.args.seconds.now c.args.shares.now c.args.reaches.now in
    let k = call_of c.args.fluxes.now c.args.outsides.now c.args.next.now c.args.moved.now c.args.work.now c.args.releases.now in
    let p = err_from_is_err_and c.from_residual.result c.from_residual.ensures.1 in
    rw (p.1, p.2) (refused-promise (scheme_of c.args.way) M c.args.masses.now k _ (sym c.in_err-check_step.ensures))

pub advance-carried-requires-clause-ready : goal.advance-carried-requires-clause-ready
advance-carried-requires-clause-ready c =
    let M = mesh_of c.args.cells c.args.faces c.args.volumes.now c.args.firsts.now c.args.seconds.now c.args.shares.now c.args.reaches.now in
    let k = call_of c.args.fluxes.now c.args.outsides.now c.args.next.now c.args.moved.now c.args.work.now c.args.releases.now in
    let v = sym c.in_ok-check_step.ensures in
    let p = passed M c.args.masses.now k v in
    let l = call-lent M c.args.masses.now k p.step_tables_fine in
    (ready M c.args.masses.now k v, field-lent M c.args.masses.now p.field_table_fine, l.releases_long)

pub advance-carried-requires-clause-lengths : goal.advance-carried-requires-clause-lengths
advance-carried-requires-clause-lengths c =
    let M = mesh_of c.args.cells c.args.faces c.args.volumes.now c.args.firsts.now c.args.seconds.now c.args.shares.now c.args.reaches.now in
    let k = call_of c.args.fluxes.now c.args.outsides.now c.args.next.now c.args.moved.now c.args.work.now c.args.releases.now in
    let v = sym c.in_ok-check_step.ensures in
    let p = passed M c.args.masses.now k v in
    let l = call-lent M c.args.masses.now k p.step_tables_fine in
    (l.nexts_long, l.moveds_long, l.work_long)

pub sum_of-requires : goal.sum_of-requires
sum_of-requires c =
    let M = mesh_of c.args.cells c.args.faces c.args.volumes.now c.args.firsts.now c.args.seconds.now c.args.shares.now c.args.reaches.now in
    let k = call_of c.args.fluxes.now c.args.outsides.now c.args.next.now c.args.moved.now c.args.work.now c.args.releases.now in
    let v = sym c.in_ok-check_step.ensures in
    released-asks M c.args.masses.now k v

pub returns : goal.returns
unfolding released_mass
returns c =
    let M = mesh_of c.args.cells c.args.faces c.args.volumes.now c.args.firsts.now c.args.seconds.now c.args.shares.now c.args.reaches.now in
    let k = call_of c.args.fluxes.now c.args.outsides.now c.args.next.now c.args.moved.now c.args.work.now c.args.releases.now in
    let v = sym c.in_ok-check_step.ensures in
    stepped-promise (scheme_of c.args.way) M c.args.masses.now k _ _ _ _ v c.advance-carried.ensures c.sum_of.ensures
