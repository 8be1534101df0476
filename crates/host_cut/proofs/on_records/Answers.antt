-- `on_records`: the counted parts of the tables are the mesh and the field that the records hold.
use Rattle.std.proofs.lemmas.Result.{err_from_is_err_and}
use Rattle.host_taking.proofs.Held.{untaken, lendable}
use Rattle.host_cut_promises.specs.Cut.{Records, records_of}
use Rattle.host_cut_promises.proofs.Cut.{records-refused, records-taken}
use Rattle.host_cut.proofs.on_records.Goals as goal

pub returns-in_err-counts : goal.returns-in_err-counts
returns-in_err-counts c =
    let p = err_from_is_err_and c.from_residual.result c.from_residual.ensures.1 in
    let a = c.args in
    let lent-0 : Records = records_of a.mesh0.now a.field0.now a.step0.now in
    let lent-1 : Records = records_of a.mesh1.now a.field1.now a.step1.now in
    rw (p.1, p.2) (records-refused a.mesh.now a.field.now a.step.now a.labels.now lent-0 lent-1
    (untaken a.mesh.now a.field.now c.take_field.ensures.answer c.in_err-counts.was))

pub slice_bounds-volumes-end : goal.slice_bounds-volumes-end
slice_bounds-volumes-end c = (lendable c.args.mesh.now c.args.field.now c.take_field.ensures c.in_ok-counts.was).mesh_fits.volumes_long

pub slice_bounds-on_field-end : goal.slice_bounds-on_field-end
slice_bounds-on_field-end c = (lendable c.args.mesh.now c.args.field.now c.take_field.ensures c.in_ok-counts.was).mesh_cut.volumes_cut

pub slice_bounds-firsts-end : goal.slice_bounds-firsts-end
slice_bounds-firsts-end c = (lendable c.args.mesh.now c.args.field.now c.take_field.ensures c.in_ok-counts.was).mesh_fits.firsts_long

pub slice_bounds-on_field-end-2 : goal.slice_bounds-on_field-end-2
slice_bounds-on_field-end-2 c = (lendable c.args.mesh.now c.args.field.now c.take_field.ensures c.in_ok-counts.was).mesh_cut.firsts_cut

pub slice_bounds-seconds-end : goal.slice_bounds-seconds-end
slice_bounds-seconds-end c = (lendable c.args.mesh.now c.args.field.now c.take_field.ensures c.in_ok-counts.was).mesh_fits.seconds_long

pub slice_bounds-on_field-end-3 : goal.slice_bounds-on_field-end-3
slice_bounds-on_field-end-3 c = (lendable c.args.mesh.now c.args.field.now c.take_field.ensures c.in_ok-counts.was).mesh_cut.seconds_cut

pub slice_bounds-shares-end : goal.slice_bounds-shares-end
slice_bounds-shares-end c = (lendable c.args.mesh.now c.args.field.now c.take_field.ensures c.in_ok-counts.was).mesh_fits.shares_long

pub slice_bounds-on_field-end-4 : goal.slice_bounds-on_field-end-4
slice_bounds-on_field-end-4 c = (lendable c.args.mesh.now c.args.field.now c.take_field.ensures c.in_ok-counts.was).mesh_cut.shares_cut

pub slice_bounds-reaches-end : goal.slice_bounds-reaches-end
slice_bounds-reaches-end c = (lendable c.args.mesh.now c.args.field.now c.take_field.ensures c.in_ok-counts.was).mesh_fits.reaches_long

pub slice_bounds-on_field-end-5 : goal.slice_bounds-on_field-end-5
slice_bounds-on_field-end-5 c = (lendable c.args.mesh.now c.args.field.now c.take_field.ensures c.in_ok-counts.was).mesh_cut.reaches_cut

pub slice_bounds-masses-end : goal.slice_bounds-masses-end
slice_bounds-masses-end c = (lendable c.args.mesh.now c.args.field.now c.take_field.ensures c.in_ok-counts.was).masses_fit

pub slice_bounds-on_field-end-6 : goal.slice_bounds-on_field-end-6
slice_bounds-on_field-end-6 c = (lendable c.args.mesh.now c.args.field.now c.take_field.ensures c.in_ok-counts.was).masses_long

pub returns : goal.returns
returns c =
    let a = c.args in
    let lent-0 : Records = records_of a.mesh0.now a.field0.now a.step0.now in
    let lent-1 : Records = records_of a.mesh1.now a.field1.now a.step1.now in
    let new = c.on_field.new in
    let left-0 : Records = records_of new.mesh0 new.field0 new.step0 in
    let left-1 : Records = records_of new.mesh1 new.field1 new.step1 in
    records-taken a.mesh.now a.field.now a.step.now a.labels.now lent-0 lent-1 c.take_field.ensures c.in_ok-counts.was {after₀ = left-0} {after₁ = left-1} c.on_field.ensures
