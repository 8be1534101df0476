-- `take_mesh`: an unread mesh is refused as reading refuses it; a read one is the mesh of the counted parts, and `keep` has the rest.
use Rattle.std.proofs.Common.{refl}
use Rattle.std.proofs.lemmas.Result.{err_from_is_err_and}
use Rattle.model.specs.Mesh.{mesh_of, run_cells, run_faces}
use Rattle.taking_mesh.proofs.MeshLaws.{mesh-unread, mesh-read, parts_cut, mesh-done}
use Rattle.taking_mesh.proofs.mesh.take_mesh.Goals as goal

pub returns-in_err-counts : goal.returns-in_err-counts
returns-in_err-counts c =
    let p = err_from_is_err_and c.from_residual.result c.from_residual.ensures.1 in
    let a = c.args in
    rw (p.1, p.2, ← c.in_err-counts.was)
    (mesh-unread c.read_mesh.ensures refl refl refl refl refl c.in_err-counts.was
    (mesh_of run_cells run_faces a.volumes.now a.firsts.now a.seconds.now a.shares.now a.reaches.now))

pub slice_bounds-read_volumes-end : goal.slice_bounds-read_volumes-end
slice_bounds-read_volumes-end c = (mesh-read c.read_mesh.ensures c.in_ok-counts.was).held.volumes_long

pub slice_bounds-keep-end : goal.slice_bounds-keep-end
slice_bounds-keep-end c = (parts_cut (mesh-read c.read_mesh.ensures c.in_ok-counts.was)).volumes_cut

pub slice_bounds-read_firsts-end : goal.slice_bounds-read_firsts-end
slice_bounds-read_firsts-end c = (mesh-read c.read_mesh.ensures c.in_ok-counts.was).held.firsts_long

pub slice_bounds-keep-end-2 : goal.slice_bounds-keep-end-2
slice_bounds-keep-end-2 c = (parts_cut (mesh-read c.read_mesh.ensures c.in_ok-counts.was)).firsts_cut

pub slice_bounds-read_seconds-end : goal.slice_bounds-read_seconds-end
slice_bounds-read_seconds-end c = (mesh-read c.read_mesh.ensures c.in_ok-counts.was).held.seconds_long

pub slice_bounds-keep-end-3 : goal.slice_bounds-keep-end-3
slice_bounds-keep-end-3 c = (parts_cut (mesh-read c.read_mesh.ensures c.in_ok-counts.was)).seconds_cut

pub slice_bounds-read_shares-end : goal.slice_bounds-read_shares-end
slice_bounds-read_shares-end c = (mesh-read c.read_mesh.ensures c.in_ok-counts.was).held.shares_long

pub slice_bounds-keep-end-4 : goal.slice_bounds-keep-end-4
slice_bounds-keep-end-4 c = (parts_cut (mesh-read c.read_mesh.ensures c.in_ok-counts.was)).shares_cut

pub slice_bounds-read_reaches-end : goal.slice_bounds-read_reaches-end
slice_bounds-read_reaches-end c = (mesh-read c.read_mesh.ensures c.in_ok-counts.was).held.reaches_long

pub slice_bounds-keep-end-5 : goal.slice_bounds-keep-end-5
slice_bounds-keep-end-5 c = (parts_cut (mesh-read c.read_mesh.ensures c.in_ok-counts.was)).reaches_cut

pub keep-requires : goal.keep-requires
keep-requires c = parts_cut (mesh-read c.read_mesh.ensures c.in_ok-counts.was)

pub returns : goal.returns
returns c = mesh-done (mesh-read c.read_mesh.ensures c.in_ok-counts.was) c.keep.ensures
