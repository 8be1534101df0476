-- `written`: each return has what the step or the writer found; the next masses are the counted part of the table that the step filled.
use Rattle.std.proofs.lemmas.Result.{err_from_is_err_and}
use Rattle.model.specs.Calls.{judged}
use Rattle.model.proofs.Claims.{judged-keeping}
use Rattle.model.proofs.Parts.{part-long}
use Rattle.taking.specs.Taking.{blank}
use Rattle.host_record_promises.specs.Judge.{claim_on}
use Rattle.host_record_promises.proofs.Next.{step-refused, next-part, no_room, written as record-written}
use Rattle.host_record_promises.proofs.Judge.{lent}
use Rattle.host_judge.proofs.written.Goals as goal

pub returns-in_err-crossed : goal.returns-in_err-crossed
unfolding blank
returns-in_err-crossed c =
    let k = claim_on c.args.fluxes.now c.args.outsides.now c.args.releases.now c.args.claim.now in
    let p = err_from_is_err_and c.from_residual.result c.from_residual.ensures.1 in
    rw (p.1, p.2) (step-refused judged judged-keeping c.args.width _ c.requires c.args.masses.now k (lent _ c.args.masses.now k)
    c.args.bytes.now c.judge.ensures.answer c.judge.ensures.next_masses c.in_err-crossed.was)

pub slice_bounds-next-end : goal.slice_bounds-next-end
unfolding blank
slice_bounds-next-end c =
    let k = claim_on c.args.fluxes.now c.args.outsides.now c.args.releases.now c.args.claim.now in
    (next-part judged judged-keeping c.args.width _ c.requires c.args.masses.now k (lent _ c.args.masses.now k)
    c.args.bytes.now c.judge.ensures.answer c.judge.ensures.next_masses c.in_ok-crossed.was).fits

pub slice_bounds-write_field-end : goal.slice_bounds-write_field-end
unfolding blank
slice_bounds-write_field-end c =
    let k = claim_on c.args.fluxes.now c.args.outsides.now c.args.releases.now c.args.claim.now in
    part-long (next-part judged judged-keeping c.args.width _ c.requires c.args.masses.now k (lent _ c.args.masses.now k)
    c.args.bytes.now c.judge.ensures.answer c.judge.ensures.next_masses c.in_ok-crossed.was)

pub returns-in_err-write_field : goal.returns-in_err-write_field
unfolding blank
returns-in_err-write_field c =
    let k = claim_on c.args.fluxes.now c.args.outsides.now c.args.releases.now c.args.claim.now in
    let p = err_from_is_err_and c.from_residual-in_err-write_field.result c.from_residual-in_err-write_field.ensures.1 in
    rw (p.1, p.2) (no_room judged judged-keeping c.args.width _ c.requires c.args.masses.now k (lent _ c.args.masses.now k)
    c.args.bytes.now c.judge.ensures.answer c.judge.ensures.next_masses c.in_ok-crossed.was c.write_field.ensures c.in_err-write_field.was)

pub returns : goal.returns
unfolding blank
returns c =
    let k = claim_on c.args.fluxes.now c.args.outsides.now c.args.releases.now c.args.claim.now in
    record-written judged judged-keeping c.args.width _ c.requires c.args.masses.now k (lent _ c.args.masses.now k)
    c.args.bytes.now c.judge.ensures.answer c.judge.ensures.next_masses c.in_ok-crossed.was c.write_field.ensures c.in_ok-write_field.was
