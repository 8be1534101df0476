-- The public's page: the counted parts of the tables are the cells and the field that the records hold.
use Rattle.std.proofs.lemmas.Result.{err_from_is_err_and}
use Rattle.model.proofs.Verdicts.{out}
use Rattle.host_taking.proofs.Held.{untaken, volumes-fit, volumes_long, masses_fit, masses_long}
use Rattle.host_record_promises.proofs.Pages.{printing-refused, public-made}
use Rattle.host_record_cells.proofs.public_page_of.Goals as goal

pub returns-in_err-counts : goal.returns-in_err-counts
returns-in_err-counts c =
    let p = err_from_is_err_and c.from_residual.result c.from_residual.ensures.1 in
    rw (p.1, p.2) (printing-refused _ _ c.args.bytes.now _
    (out _ (untaken c.args.mesh.now c.args.field.now c.take_cells.ensures.answer c.in_err-counts.was)))

pub slice_bounds-volumes-end : goal.slice_bounds-volumes-end
slice_bounds-volumes-end c = volumes-fit _ _ c.take_cells.ensures c.in_ok-counts.was

pub slice_bounds-public_page-end : goal.slice_bounds-public_page-end
slice_bounds-public_page-end c = volumes_long _ _ c.take_cells.ensures c.in_ok-counts.was

pub slice_bounds-masses-end : goal.slice_bounds-masses-end
slice_bounds-masses-end c = masses_fit _ _ c.take_cells.ensures c.in_ok-counts.was

pub slice_bounds-public_page-end-2 : goal.slice_bounds-public_page-end-2
slice_bounds-public_page-end-2 c = masses_long _ _ c.take_cells.ensures c.in_ok-counts.was

pub returns : goal.returns
returns c =
    public-made c.args.mesh.now c.args.field.now c.args.page c.args.bytes.now c.take_cells.ensures c.in_ok-counts.was c.args.marks.now
    c.public_page.ensures
