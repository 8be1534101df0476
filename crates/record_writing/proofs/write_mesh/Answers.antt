-- No byte is touched before the causes have found nothing; what they have passed is all that putting the record asks for (`mesh-whole`).
use Rattle.std.proofs.Common.{sym}
use Rattle.std.proofs.lemmas.Result.{err_from_is_err_and}
use Rattle.record_writing.proofs.WriteLaws.{writing-refused, writing-accepted, mesh-whole}
use Rattle.record_writing.proofs.write_mesh.Goals as goal

pub returns-in_err-mesh : goal.returns-in_err-mesh
returns-in_err-mesh c =
    let p = err_from_is_err_and c.from_residual.result c.from_residual.ensures.1 in
    rw (p.1, p.2) (writing-refused (sym c.in_err-mesh.ensures))

pub mesh-length-requires : goal.mesh-length-requires
mesh-length-requires c = mesh-whole _ _ (sym c.in_ok-mesh.ensures)

pub returns : goal.returns
returns c = writing-accepted (sym c.in_ok-mesh.ensures) c.mesh-length.ensures
