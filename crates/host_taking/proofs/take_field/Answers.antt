-- `take_field`: each return has what one of the two calls found, and the mesh before it passed.
use Rattle.std.proofs.lemmas.Result.{err_from_is_err_and}
use Rattle.host_taking.proofs.Taken.{mesh_refused, volumes-fit, volumes_long, field_refused, field_taken}
use Rattle.host_taking.proofs.take_field.Goals as goal

pub returns-in_err-counts : goal.returns-in_err-counts
returns-in_err-counts c =
    let p = err_from_is_err_and c.from_residual.result c.from_residual.ensures.1 in
    let q = c.requires.firsts_len in
    rw (p.1, p.2) (mesh_refused c.args.mesh.now c.args.field.now c.take_mesh.ensures c.requires.volumes_len.0 q.0 q.1 q.2 q.3
    c.in_err-counts.was c.args.masses.now)

pub slice_bounds-take_field-end : goal.slice_bounds-take_field-end
slice_bounds-take_field-end c =
    let q = c.requires.firsts_len in
    volumes-fit c.args.mesh.now c.args.field.now c.take_mesh.ensures c.requires.volumes_len.0 q.0 q.1 q.2 q.3 c.in_ok-counts.was

pub slice_bounds-take_field-end-2 : goal.slice_bounds-take_field-end-2
slice_bounds-take_field-end-2 c =
    let q = c.requires.firsts_len in
    volumes_long c.args.mesh.now c.args.field.now c.take_mesh.ensures c.requires.volumes_len.0 q.0 q.1 q.2 q.3 c.in_ok-counts.was

pub returns-in_err-total : goal.returns-in_err-total
returns-in_err-total c =
    let p = err_from_is_err_and c.from_residual-in_err-total.result c.from_residual-in_err-total.ensures.1 in
    let q = c.requires.firsts_len in
    rw (p.1, p.2) (field_refused c.args.mesh.now c.args.field.now c.take_mesh.ensures c.requires.volumes_len.0 q.0 q.1 q.2 q.3
    c.in_ok-counts.was c.take_field.ensures c.requires.volumes_len.1 c.in_err-total.was)

pub returns : goal.returns
returns c =
    let q = c.requires.firsts_len in
    field_taken c.args.mesh.now c.args.field.now c.take_mesh.ensures c.requires.volumes_len.0 q.0 q.1 q.2 q.3 c.in_ok-counts.was
    c.take_field.ensures c.requires.volumes_len.1 c.in_ok-total.was
