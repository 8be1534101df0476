-- `on_records`: the counted parts of the tables are the mesh and the field that the records hold.
use Rattle.std.proofs.lemmas.Result.{err_from_is_err_and}
use Rattle.model.specs.Calls.{judged}
use Rattle.host_record_promises.specs.Judge.{claim_on, claim_judged}
use Rattle.host_taking.proofs.Held.{untaken, lendable}
use Rattle.host_record_promises.proofs.Next.{within-taken}
use Rattle.host_record_promises.proofs.Records.{records-refused, records-taken}
use Rattle.host_judge.proofs.on_records.Goals as goal

pub returns-in_err-counts : goal.returns-in_err-counts
unfolding claim_judged
returns-in_err-counts c =
    let p = err_from_is_err_and c.from_residual.result c.from_residual.ensures.1 in
    rw (p.1, p.2) (records-refused judged (λ fluxes outsides releases. claim_on fluxes outsides releases c.args.claim.now)
    c.args.mesh.now c.args.field.now c.args.step.now c.args.bytes.now
    (untaken c.args.mesh.now c.args.field.now c.take_field.ensures.answer c.in_err-counts.was))

pub slice_bounds-volumes-end : goal.slice_bounds-volumes-end
slice_bounds-volumes-end c = (lendable _ _ c.take_field.ensures c.in_ok-counts.was).mesh_fits.volumes_long

pub slice_bounds-on_field-end : goal.slice_bounds-on_field-end
slice_bounds-on_field-end c = (lendable _ _ c.take_field.ensures c.in_ok-counts.was).mesh_cut.volumes_cut

pub slice_bounds-firsts-end : goal.slice_bounds-firsts-end
slice_bounds-firsts-end c = (lendable _ _ c.take_field.ensures c.in_ok-counts.was).mesh_fits.firsts_long

pub slice_bounds-on_field-end-2 : goal.slice_bounds-on_field-end-2
slice_bounds-on_field-end-2 c = (lendable _ _ c.take_field.ensures c.in_ok-counts.was).mesh_cut.firsts_cut

pub slice_bounds-seconds-end : goal.slice_bounds-seconds-end
slice_bounds-seconds-end c = (lendable _ _ c.take_field.ensures c.in_ok-counts.was).mesh_fits.seconds_long

pub slice_bounds-on_field-end-3 : goal.slice_bounds-on_field-end-3
slice_bounds-on_field-end-3 c = (lendable _ _ c.take_field.ensures c.in_ok-counts.was).mesh_cut.seconds_cut

pub slice_bounds-shares-end : goal.slice_bounds-shares-end
slice_bounds-shares-end c = (lendable _ _ c.take_field.ensures c.in_ok-counts.was).mesh_fits.shares_long

pub slice_bounds-on_field-end-4 : goal.slice_bounds-on_field-end-4
slice_bounds-on_field-end-4 c = (lendable _ _ c.take_field.ensures c.in_ok-counts.was).mesh_cut.shares_cut

pub slice_bounds-reaches-end : goal.slice_bounds-reaches-end
slice_bounds-reaches-end c = (lendable _ _ c.take_field.ensures c.in_ok-counts.was).mesh_fits.reaches_long

pub slice_bounds-on_field-end-5 : goal.slice_bounds-on_field-end-5
slice_bounds-on_field-end-5 c = (lendable _ _ c.take_field.ensures c.in_ok-counts.was).mesh_cut.reaches_cut

pub slice_bounds-masses-end : goal.slice_bounds-masses-end
slice_bounds-masses-end c = (lendable _ _ c.take_field.ensures c.in_ok-counts.was).masses_fit

pub slice_bounds-on_field-end-6 : goal.slice_bounds-on_field-end-6
slice_bounds-on_field-end-6 c = (lendable _ _ c.take_field.ensures c.in_ok-counts.was).masses_long

pub on_field-requires : goal.on_field-requires
on_field-requires c = within-taken _ _ c.take_field.ensures c.in_ok-counts.was

pub returns : goal.returns
unfolding claim_judged
returns c =
    records-taken judged (λ fluxes outsides releases. claim_on fluxes outsides releases c.args.claim.now)
    c.args.mesh.now c.args.field.now c.args.step.now c.args.bytes.now c.take_field.ensures
    c.in_ok-counts.was c.on_field.ensures
