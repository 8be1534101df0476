-- `take_step_in`: the counted parts of the lent tables are the fluxes, outside values and releases that were read.
use Rattle.std.proofs.lemmas.Result.{err_from_is_err_and}
use Rattle.model.specs.Mesh.{mesh_of}
use Rattle.model.proofs.Parts.{part-long}
use Rattle.taking.proofs.StepLaws.{step-unread, fluxes-part, outsides-part, releases-part, step-took}
use Rattle.taking_records.proofs.step.take_step_in.Goals as goal

pub returns-in_err-read_step : goal.returns-in_err-read_step
returns-in_err-read_step c =
    let p = err_from_is_err_and c.from_residual.result c.from_residual.ensures.1 in
    let s = c.args in
    let mesh = mesh_of s.cells s.faces s.volumes.now s.firsts.now s.seconds.now s.shares.now s.reaches.now in
    rw (p.1, p.2) (step-unread s.width mesh s.masses.now c.read_step.ensures c.requires.fluxes_len.0 c.requires.fluxes_len.1 c.requires.fluxes_len.2 c.in_err-read_step.was)

pub slice_bounds-stepped-end : goal.slice_bounds-stepped-end
slice_bounds-stepped-end c =
    let s = c.args in
    let mesh = mesh_of s.cells s.faces s.volumes.now s.firsts.now s.seconds.now s.shares.now s.reaches.now in
    (fluxes-part s.width mesh s.masses.now c.read_step.ensures c.in_ok-read_step.was).fits

pub slice_bounds-stepped-end-2 : goal.slice_bounds-stepped-end-2
slice_bounds-stepped-end-2 c =
    let s = c.args in
    let mesh = mesh_of s.cells s.faces s.volumes.now s.firsts.now s.seconds.now s.shares.now s.reaches.now in
    part-long (fluxes-part s.width mesh s.masses.now c.read_step.ensures c.in_ok-read_step.was)

pub slice_bounds-stepped-end-3 : goal.slice_bounds-stepped-end-3
slice_bounds-stepped-end-3 c =
    let s = c.args in
    let mesh = mesh_of s.cells s.faces s.volumes.now s.firsts.now s.seconds.now s.shares.now s.reaches.now in
    (outsides-part s.width mesh s.masses.now c.read_step.ensures c.in_ok-read_step.was).fits

pub slice_bounds-stepped-end-4 : goal.slice_bounds-stepped-end-4
slice_bounds-stepped-end-4 c =
    let s = c.args in
    let mesh = mesh_of s.cells s.faces s.volumes.now s.firsts.now s.seconds.now s.shares.now s.reaches.now in
    part-long (outsides-part s.width mesh s.masses.now c.read_step.ensures c.in_ok-read_step.was)

pub slice_bounds-stepped-end-5 : goal.slice_bounds-stepped-end-5
slice_bounds-stepped-end-5 c =
    let s = c.args in
    let mesh = mesh_of s.cells s.faces s.volumes.now s.firsts.now s.seconds.now s.shares.now s.reaches.now in
    (releases-part s.width mesh s.masses.now c.read_step.ensures c.in_ok-read_step.was).fits

pub slice_bounds-stepped-end-6 : goal.slice_bounds-stepped-end-6
slice_bounds-stepped-end-6 c =
    let s = c.args in
    let mesh = mesh_of s.cells s.faces s.volumes.now s.firsts.now s.seconds.now s.shares.now s.reaches.now in
    part-long (releases-part s.width mesh s.masses.now c.read_step.ensures c.in_ok-read_step.was)

pub returns : goal.returns
returns c =
    let s = c.args in
    let mesh = mesh_of s.cells s.faces s.volumes.now s.firsts.now s.seconds.now s.shares.now s.reaches.now in
    step-took s.width mesh s.masses.now c.read_step.ensures c.requires.fluxes_len.0 c.requires.fluxes_len.1 c.requires.fluxes_len.2 c.in_ok-read_step.was c.stepped.ensures
