-- `on_mesh`: the counted parts of the call's own tables are the field and the step that the records hold.
use Rattle.std.proofs.Common.{[]}
use native.Mathlib.Nat.{le_refl}
use Rattle.model.specs.Mesh.{Mesh, mesh_of, run_cells, run_faces}
use Rattle.model.proofs.Parts.{part-long}
use Rattle.taking.proofs.StepLaws.{fluxes-part, outsides-part, releases-part}
use Rattle.lagoon_straight.proofs.Laws.{answers, masses-part, mesh-put}
use Rattle.lagoon_straight.proofs.on_mesh.Goals as goal

pub slice_bounds-masses-end : goal.slice_bounds-masses-end
slice_bounds-masses-end c = (masses-part c.args.width c.read_field.ensures (answers c.read_field.result c.is_err.ensures.value c.if-is_err.false).1).fits

pub slice_bounds-put_step-end : goal.slice_bounds-put_step-end
slice_bounds-put_step-end c = part-long (masses-part c.args.width c.read_field.ensures (answers c.read_field.result c.is_err.ensures.value c.if-is_err.false).1)

pub slice_bounds-fluxes-end : goal.slice_bounds-fluxes-end
slice_bounds-fluxes-end c =
    let a = c.args in
    let mesh : Mesh = mesh_of a.cells a.faces a.volumes.now a.firsts.now a.seconds.now a.shares.now a.reaches.now in
    (fluxes-part a.width mesh [] c.read_step-read.ensures (answers c.read_step-read.result c.is_err-2.ensures.value c.if-is_err-2.false).1).fits

pub slice_bounds-put_step-end-2 : goal.slice_bounds-put_step-end-2
slice_bounds-put_step-end-2 c =
    let a = c.args in
    let mesh : Mesh = mesh_of a.cells a.faces a.volumes.now a.firsts.now a.seconds.now a.shares.now a.reaches.now in
    part-long (fluxes-part a.width mesh [] c.read_step-read.ensures (answers c.read_step-read.result c.is_err-2.ensures.value c.if-is_err-2.false).1)

pub slice_bounds-outsides-end : goal.slice_bounds-outsides-end
slice_bounds-outsides-end c =
    let a = c.args in
    let mesh : Mesh = mesh_of a.cells a.faces a.volumes.now a.firsts.now a.seconds.now a.shares.now a.reaches.now in
    (outsides-part a.width mesh [] c.read_step-read.ensures (answers c.read_step-read.result c.is_err-2.ensures.value c.if-is_err-2.false).1).fits

pub slice_bounds-put_step-end-3 : goal.slice_bounds-put_step-end-3
slice_bounds-put_step-end-3 c =
    let a = c.args in
    let mesh : Mesh = mesh_of a.cells a.faces a.volumes.now a.firsts.now a.seconds.now a.shares.now a.reaches.now in
    part-long (outsides-part a.width mesh [] c.read_step-read.ensures (answers c.read_step-read.result c.is_err-2.ensures.value c.if-is_err-2.false).1)

pub slice_bounds-releases-end : goal.slice_bounds-releases-end
slice_bounds-releases-end c =
    let a = c.args in
    let mesh : Mesh = mesh_of a.cells a.faces a.volumes.now a.firsts.now a.seconds.now a.shares.now a.reaches.now in
    (releases-part a.width mesh [] c.read_step-read.ensures (answers c.read_step-read.result c.is_err-2.ensures.value c.if-is_err-2.false).1).fits

pub slice_bounds-put_step-end-4 : goal.slice_bounds-put_step-end-4
slice_bounds-put_step-end-4 c =
    let a = c.args in
    let mesh : Mesh = mesh_of a.cells a.faces a.volumes.now a.firsts.now a.seconds.now a.shares.now a.reaches.now in
    part-long (releases-part a.width mesh [] c.read_step-read.ensures (answers c.read_step-read.result c.is_err-2.ensures.value c.if-is_err-2.false).1)

pub returns : goal.returns
returns c =
    let a = c.args in
    let mesh : Mesh = mesh_of a.cells a.faces a.volumes.now a.firsts.now a.seconds.now a.shares.now a.reaches.now in
    mesh-put a.width mesh a.field.now a.step.now a.bytes.now c.read_field.ensures (answers c.read_field.result c.is_err.ensures.value c.if-is_err.false).1 c.read_step-read.ensures
    (answers c.read_step-read.result c.is_err-2.ensures.value c.if-is_err-2.false).1 (le_refl run_faces) (le_refl run_cells) c.put_step.ensures
