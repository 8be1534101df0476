-- `in_order`: the counted parts of the tables are the mesh that the record holds.
use Rattle.std.proofs.Common.{refl}
use Rattle.std.proofs.lemmas.Result.{err_from_is_err_and}
use Rattle.taking_mesh.proofs.MeshLaws.{taken-read, parts_cut}
use Rattle.lagoon.proofs.Stages.{mesh_refused, mesh-within, host-done}
use Rattle.lagoon_step.proofs.chain.in_order.Goals as goal

pub returns-in_err-counts : goal.returns-in_err-counts
returns-in_err-counts c =
    let p = err_from_is_err_and c.from_residual.result c.from_residual.ensures.1 in
    let a = c.args in
    rw (p.1, p.2) (mesh_refused a.mesh.now a.field.now a.step.now a.bytes.now c.take_mesh.ensures refl refl refl refl refl c.in_err-counts.was)

pub slice_bounds-volumes-end : goal.slice_bounds-volumes-end
slice_bounds-volumes-end c = (taken-read c.args.mesh.now c.take_mesh.ensures refl refl refl refl refl c.in_ok-counts.was).held.volumes_long

pub slice_bounds-on_mesh-end : goal.slice_bounds-on_mesh-end
slice_bounds-on_mesh-end c = (parts_cut (taken-read c.args.mesh.now c.take_mesh.ensures refl refl refl refl refl c.in_ok-counts.was)).volumes_cut

pub slice_bounds-firsts-end : goal.slice_bounds-firsts-end
slice_bounds-firsts-end c = (taken-read c.args.mesh.now c.take_mesh.ensures refl refl refl refl refl c.in_ok-counts.was).held.firsts_long

pub slice_bounds-on_mesh-end-2 : goal.slice_bounds-on_mesh-end-2
slice_bounds-on_mesh-end-2 c = (parts_cut (taken-read c.args.mesh.now c.take_mesh.ensures refl refl refl refl refl c.in_ok-counts.was)).firsts_cut

pub slice_bounds-seconds-end : goal.slice_bounds-seconds-end
slice_bounds-seconds-end c = (taken-read c.args.mesh.now c.take_mesh.ensures refl refl refl refl refl c.in_ok-counts.was).held.seconds_long

pub slice_bounds-on_mesh-end-3 : goal.slice_bounds-on_mesh-end-3
slice_bounds-on_mesh-end-3 c = (parts_cut (taken-read c.args.mesh.now c.take_mesh.ensures refl refl refl refl refl c.in_ok-counts.was)).seconds_cut

pub slice_bounds-shares-end : goal.slice_bounds-shares-end
slice_bounds-shares-end c = (taken-read c.args.mesh.now c.take_mesh.ensures refl refl refl refl refl c.in_ok-counts.was).held.shares_long

pub slice_bounds-on_mesh-end-4 : goal.slice_bounds-on_mesh-end-4
slice_bounds-on_mesh-end-4 c = (parts_cut (taken-read c.args.mesh.now c.take_mesh.ensures refl refl refl refl refl c.in_ok-counts.was)).shares_cut

pub slice_bounds-reaches-end : goal.slice_bounds-reaches-end
slice_bounds-reaches-end c = (taken-read c.args.mesh.now c.take_mesh.ensures refl refl refl refl refl c.in_ok-counts.was).held.reaches_long

pub slice_bounds-on_mesh-end-5 : goal.slice_bounds-on_mesh-end-5
slice_bounds-on_mesh-end-5 c = (parts_cut (taken-read c.args.mesh.now c.take_mesh.ensures refl refl refl refl refl c.in_ok-counts.was)).reaches_cut

pub on_mesh-requires : goal.on_mesh-requires
on_mesh-requires c =
    let a = c.args in
    mesh-within a.mesh.now a.field.now a.step.now a.bytes.now c.take_mesh.ensures refl refl refl refl refl c.in_ok-counts.was

pub returns : goal.returns
returns c =
    let a = c.args in
    host-done a.mesh.now a.field.now a.step.now a.bytes.now c.take_mesh.ensures refl refl refl refl refl c.in_ok-counts.was c.on_mesh.ensures
