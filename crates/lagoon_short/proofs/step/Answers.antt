-- `step`: the counted parts of the call's own tables are the mesh that its record holds.
use Rattle.std.proofs.Common.{arith, ◌≤◌}
use Rattle.model.specs.Mesh.{run_cells, run_faces}
use Rattle.taking_mesh.proofs.MeshLaws.{read-within, parts_cut}
use Rattle.lagoon_straight.proofs.Laws.{mesh-within, records-put}
use Rattle.lagoon_short.proofs.step.Goals as goal

few_cells : 256 ≤ run_cells
few_cells = omega arith

few_faces : 512 ≤ run_faces
few_faces = omega arith

pub slice_bounds-volumes-end : goal.slice_bounds-volumes-end
slice_bounds-volumes-end c = (read-within 256 512 c.read_mesh-answer.ensures few_cells few_faces c.in-Ok.is).held.volumes_long

pub slice_bounds-on_mesh-end : goal.slice_bounds-on_mesh-end
slice_bounds-on_mesh-end c = (parts_cut (read-within 256 512 c.read_mesh-answer.ensures few_cells few_faces c.in-Ok.is)).volumes_cut

pub slice_bounds-firsts-end : goal.slice_bounds-firsts-end
slice_bounds-firsts-end c = (read-within 256 512 c.read_mesh-answer.ensures few_cells few_faces c.in-Ok.is).held.firsts_long

pub slice_bounds-on_mesh-end-2 : goal.slice_bounds-on_mesh-end-2
slice_bounds-on_mesh-end-2 c = (parts_cut (read-within 256 512 c.read_mesh-answer.ensures few_cells few_faces c.in-Ok.is)).firsts_cut

pub slice_bounds-seconds-end : goal.slice_bounds-seconds-end
slice_bounds-seconds-end c = (read-within 256 512 c.read_mesh-answer.ensures few_cells few_faces c.in-Ok.is).held.seconds_long

pub slice_bounds-on_mesh-end-3 : goal.slice_bounds-on_mesh-end-3
slice_bounds-on_mesh-end-3 c = (parts_cut (read-within 256 512 c.read_mesh-answer.ensures few_cells few_faces c.in-Ok.is)).seconds_cut

pub slice_bounds-shares-end : goal.slice_bounds-shares-end
slice_bounds-shares-end c = (read-within 256 512 c.read_mesh-answer.ensures few_cells few_faces c.in-Ok.is).held.shares_long

pub slice_bounds-on_mesh-end-4 : goal.slice_bounds-on_mesh-end-4
slice_bounds-on_mesh-end-4 c = (parts_cut (read-within 256 512 c.read_mesh-answer.ensures few_cells few_faces c.in-Ok.is)).shares_cut

pub slice_bounds-reaches-end : goal.slice_bounds-reaches-end
slice_bounds-reaches-end c = (read-within 256 512 c.read_mesh-answer.ensures few_cells few_faces c.in-Ok.is).held.reaches_long

pub slice_bounds-on_mesh-end-5 : goal.slice_bounds-on_mesh-end-5
slice_bounds-on_mesh-end-5 c = (parts_cut (read-within 256 512 c.read_mesh-answer.ensures few_cells few_faces c.in-Ok.is)).reaches_cut

pub on_mesh-requires : goal.on_mesh-requires
on_mesh-requires c = mesh-within (read-within 256 512 c.read_mesh-answer.ensures few_cells few_faces c.in-Ok.is)

pub returns : goal.returns
returns c = records-put (read-within 256 512 c.read_mesh-answer.ensures few_cells few_faces c.in-Ok.is) c.args.field.now c.args.step.now c.args.bytes.now c.on_mesh.ensures
