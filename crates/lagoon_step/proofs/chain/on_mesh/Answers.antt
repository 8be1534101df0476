-- `on_mesh`: each return has what one of the three calls found, and the stages before it passed.
use Rattle.std.proofs.Common.{refl}
use Rattle.std.proofs.lemmas.Result.{err_from_is_err_and}
use Rattle.model.specs.Mesh.{mesh_of}
use Rattle.model.proofs.Parts.{part-long}
use Rattle.lagoon.proofs.Stages.{field_refused, masses-part, step-refused, no_room, written}
use Rattle.lagoon_step.proofs.chain.on_mesh.Goals as goal

pub returns-in_err-take_field : goal.returns-in_err-take_field
returns-in_err-take_field c =
    let p = err_from_is_err_and c.from_residual.result c.from_residual.ensures.1 in
    let s = c.args in
    let mesh = mesh_of s.cells s.faces s.volumes.now s.firsts.now s.seconds.now s.shares.now s.reaches.now in
    rw (p.1, p.2) (field_refused s.width mesh s.field.now s.step.now s.bytes.now c.take_field.ensures refl c.in_err-take_field.was)

pub slice_bounds-masses-end : goal.slice_bounds-masses-end
slice_bounds-masses-end c =
    let s = c.args in
    let mesh = mesh_of s.cells s.faces s.volumes.now s.firsts.now s.seconds.now s.shares.now s.reaches.now in
    (masses-part s.width mesh s.field.now s.step.now s.bytes.now c.take_field.ensures refl c.in_ok-take_field.was).fits

pub slice_bounds-counted-end : goal.slice_bounds-counted-end
slice_bounds-counted-end c =
    let s = c.args in
    let mesh = mesh_of s.cells s.faces s.volumes.now s.firsts.now s.seconds.now s.shares.now s.reaches.now in
    part-long (masses-part s.width mesh s.field.now s.step.now s.bytes.now c.take_field.ensures refl c.in_ok-take_field.was)

pub returns-in_err-take_step : goal.returns-in_err-take_step
returns-in_err-take_step c =
    let p = err_from_is_err_and c.from_residual-in_err-take_step.result c.from_residual-in_err-take_step.ensures.1 in
    let s = c.args in
    let mesh = mesh_of s.cells s.faces s.volumes.now s.firsts.now s.seconds.now s.shares.now s.reaches.now in
    rw (p.1, p.2) (step-refused s.width mesh s.field.now s.step.now s.bytes.now c.take_field.ensures refl c.in_ok-take_field.was c.take_step.ensures c.in_err-take_step.was)

pub returns-in_err-write_field : goal.returns-in_err-write_field
returns-in_err-write_field c =
    let p = err_from_is_err_and c.from_residual-in_err-write_field.result c.from_residual-in_err-write_field.ensures.1 in
    let s = c.args in
    let mesh = mesh_of s.cells s.faces s.volumes.now s.firsts.now s.seconds.now s.shares.now s.reaches.now in
    rw (p.1, p.2)
    (no_room s.width mesh s.field.now s.step.now s.bytes.now c.take_field.ensures refl c.in_ok-take_field.was c.take_step.ensures c.in_ok-take_step.was c.requires c.write_field.ensures c.in_err-write_field.was)

pub returns : goal.returns
returns c =
    let s = c.args in
    let mesh = mesh_of s.cells s.faces s.volumes.now s.firsts.now s.seconds.now s.shares.now s.reaches.now in
    written s.width mesh s.field.now s.step.now s.bytes.now c.take_field.ensures refl c.in_ok-take_field.was c.take_step.ensures c.in_ok-take_step.was c.requires c.write_field.ensures c.in_ok-write_field.was
