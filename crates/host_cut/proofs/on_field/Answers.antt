-- `on_field`: the counted parts of the tables are the step that the record holds.
use Rattle.std.proofs.Common.{refl}
use Rattle.std.proofs.lemmas.Result.{err_from_is_err_and}
use Rattle.model.specs.Mesh.{Mesh, mesh_of}
use Rattle.model.proofs.Parts.{part-long}
use Rattle.taking.proofs.StepLaws.{fluxes-part, outsides-part, releases-part}
use Rattle.host_cut_promises.specs.Cut.{Records, records_of}
use Rattle.host_cut_promises.proofs.Cut.{on-unread, on_read}
use Rattle.host_cut.proofs.on_field.Goals as goal

pub returns-in_err-kind : goal.returns-in_err-kind
returns-in_err-kind c =
    let p = err_from_is_err_and c.from_residual.result c.from_residual.ensures.1 in
    let a = c.args in
    let mesh : Mesh = mesh_of a.cells a.faces a.volumes.now a.firsts.now a.seconds.now a.shares.now a.reaches.now in
    let lent-0 : Records = records_of a.mesh0.now a.field0.now a.step0.now in
    let lent-1 : Records = records_of a.mesh1.now a.field1.now a.step1.now in
    rw (p.1, p.2) (on-unread a.width mesh a.masses.now a.step.now a.labels.now lent-0 lent-1 c.read_step.ensures refl refl refl c.in_err-kind.was)

pub slice_bounds-fluxes-end : goal.slice_bounds-fluxes-end
slice_bounds-fluxes-end c =
    let a = c.args in
    let mesh : Mesh = mesh_of a.cells a.faces a.volumes.now a.firsts.now a.seconds.now a.shares.now a.reaches.now in
    (fluxes-part a.width mesh a.masses.now c.read_step.ensures c.in_ok-kind.was).fits

pub slice_bounds-cut_tables-end : goal.slice_bounds-cut_tables-end
slice_bounds-cut_tables-end c =
    let a = c.args in
    let mesh : Mesh = mesh_of a.cells a.faces a.volumes.now a.firsts.now a.seconds.now a.shares.now a.reaches.now in
    part-long (fluxes-part a.width mesh a.masses.now c.read_step.ensures c.in_ok-kind.was)

pub slice_bounds-outsides-end : goal.slice_bounds-outsides-end
slice_bounds-outsides-end c =
    let a = c.args in
    let mesh : Mesh = mesh_of a.cells a.faces a.volumes.now a.firsts.now a.seconds.now a.shares.now a.reaches.now in
    (outsides-part a.width mesh a.masses.now c.read_step.ensures c.in_ok-kind.was).fits

pub slice_bounds-cut_tables-end-2 : goal.slice_bounds-cut_tables-end-2
slice_bounds-cut_tables-end-2 c =
    let a = c.args in
    let mesh : Mesh = mesh_of a.cells a.faces a.volumes.now a.firsts.now a.seconds.now a.shares.now a.reaches.now in
    part-long (outsides-part a.width mesh a.masses.now c.read_step.ensures c.in_ok-kind.was)

pub slice_bounds-releases-end : goal.slice_bounds-releases-end
slice_bounds-releases-end c =
    let a = c.args in
    let mesh : Mesh = mesh_of a.cells a.faces a.volumes.now a.firsts.now a.seconds.now a.shares.now a.reaches.now in
    (releases-part a.width mesh a.masses.now c.read_step.ensures c.in_ok-kind.was).fits

pub slice_bounds-cut_tables-end-3 : goal.slice_bounds-cut_tables-end-3
slice_bounds-cut_tables-end-3 c =
    let a = c.args in
    let mesh : Mesh = mesh_of a.cells a.faces a.volumes.now a.firsts.now a.seconds.now a.shares.now a.reaches.now in
    part-long (releases-part a.width mesh a.masses.now c.read_step.ensures c.in_ok-kind.was)

pub returns : goal.returns
returns c =
    let a = c.args in
    let mesh : Mesh = mesh_of a.cells a.faces a.volumes.now a.firsts.now a.seconds.now a.shares.now a.reaches.now in
    let lent-0 : Records = records_of a.mesh0.now a.field0.now a.step0.now in
    let lent-1 : Records = records_of a.mesh1.now a.field1.now a.step1.now in
    let new = c.cut_tables.new in
    let left-0 : Records = records_of new.mesh0 new.field0 new.step0 in
    let left-1 : Records = records_of new.mesh1 new.field1 new.step1 in
    on_read a.width mesh a.masses.now a.step.now a.labels.now lent-0 lent-1 c.read_step.ensures refl refl refl c.in_ok-kind.was {after₀ = left-0} {after₁ = left-1} c.cut_tables.ensures
