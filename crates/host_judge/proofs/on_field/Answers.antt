-- `on_field`: the counted parts of the tables are the step that the record holds.
use Rattle.std.proofs.Common.{refl}
use Rattle.std.proofs.lemmas.Result.{err_from_is_err_and}
use Rattle.model.specs.Mesh.{mesh_of}
use Rattle.model.specs.Calls.{judged}
use Rattle.model.proofs.Parts.{part-long}
use Rattle.taking.proofs.StepLaws.{fluxes-part, outsides-part, releases-part}
use Rattle.host_record_promises.specs.Judge.{claim_on, claim_judged}
use Rattle.host_record_promises.proofs.Records.{on-unread, on_read}
use Rattle.host_judge.proofs.on_field.Goals as goal

pub returns-in_err-read_step : goal.returns-in_err-read_step
unfolding claim_judged
returns-in_err-read_step c =
    let p = err_from_is_err_and c.from_residual.result c.from_residual.ensures.1 in
    rw (p.1, p.2) (on-unread judged (λ fluxes outsides releases. claim_on fluxes outsides releases c.args.claim.now)
    c.args.width _ c.args.masses.now c.args.step.now c.args.bytes.now
    c.read_step.ensures refl refl refl c.in_err-read_step.was)

pub slice_bounds-fluxes-end : goal.slice_bounds-fluxes-end
slice_bounds-fluxes-end c =
    let M = mesh_of c.args.cells c.args.faces c.args.volumes.now c.args.firsts.now c.args.seconds.now c.args.shares.now c.args.reaches.now in
    (fluxes-part c.args.width M c.args.masses.now c.read_step.ensures c.in_ok-read_step.was).fits

pub slice_bounds-written-end : goal.slice_bounds-written-end
slice_bounds-written-end c =
    let M = mesh_of c.args.cells c.args.faces c.args.volumes.now c.args.firsts.now c.args.seconds.now c.args.shares.now c.args.reaches.now in
    part-long (fluxes-part c.args.width M c.args.masses.now c.read_step.ensures c.in_ok-read_step.was)

pub slice_bounds-outsides-end : goal.slice_bounds-outsides-end
slice_bounds-outsides-end c =
    let M = mesh_of c.args.cells c.args.faces c.args.volumes.now c.args.firsts.now c.args.seconds.now c.args.shares.now c.args.reaches.now in
    (outsides-part c.args.width M c.args.masses.now c.read_step.ensures c.in_ok-read_step.was).fits

pub slice_bounds-written-end-2 : goal.slice_bounds-written-end-2
slice_bounds-written-end-2 c =
    let M = mesh_of c.args.cells c.args.faces c.args.volumes.now c.args.firsts.now c.args.seconds.now c.args.shares.now c.args.reaches.now in
    part-long (outsides-part c.args.width M c.args.masses.now c.read_step.ensures c.in_ok-read_step.was)

pub slice_bounds-releases-end : goal.slice_bounds-releases-end
slice_bounds-releases-end c =
    let M = mesh_of c.args.cells c.args.faces c.args.volumes.now c.args.firsts.now c.args.seconds.now c.args.shares.now c.args.reaches.now in
    (releases-part c.args.width M c.args.masses.now c.read_step.ensures c.in_ok-read_step.was).fits

pub slice_bounds-written-end-3 : goal.slice_bounds-written-end-3
slice_bounds-written-end-3 c =
    let M = mesh_of c.args.cells c.args.faces c.args.volumes.now c.args.firsts.now c.args.seconds.now c.args.shares.now c.args.reaches.now in
    part-long (releases-part c.args.width M c.args.masses.now c.read_step.ensures c.in_ok-read_step.was)

pub returns : goal.returns
unfolding claim_judged
returns c =
    on_read judged (λ fluxes outsides releases. claim_on fluxes outsides releases c.args.claim.now)
    c.args.width _ c.args.masses.now c.args.step.now c.args.bytes.now c.read_step.ensures refl refl refl
    c.in_ok-read_step.was c.written.ensures
