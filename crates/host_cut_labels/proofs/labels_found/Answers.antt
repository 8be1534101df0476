-- The mesh's record first; past it the labels of its cells.
use Rattle.std.proofs.Common.{refl}
use Rattle.std.proofs.lemmas.Result.{err_from_is_err_and}
use Rattle.host_cut_promises.proofs.Labels.{labels-unread, labels-read}
use Rattle.host_cut_labels.proofs.labels_found.Goals as goal

pub returns-in_err-counts : goal.returns-in_err-counts
returns-in_err-counts c =
    let p = err_from_is_err_and c.from_residual.result c.from_residual.ensures.1 in
    rw (p.1, p.2) (labels-unread c.args.mesh.now c.args.labels.now c.take_mesh.ensures refl refl refl refl refl c.in_err-counts.was)

pub returns : goal.returns
returns c = labels-read c.args.mesh.now c.args.labels.now c.take_mesh.ensures refl refl refl refl refl c.in_ok-counts.was c.labels_of.ensures
