-- The tests come to the verdict: those of a step, then 21 and 22; past them next masses are filled.
use Rattle.std.proofs.Common.{refl, sym, ◌∙◌}
use Rattle.std.proofs.lemmas.Result.{err_from_is_err_and}
use Rattle.model.specs.Mesh.{mesh_of}
use Rattle.model.specs.Claims.{claim_of}
use Rattle.model.proofs.Accepted.{field-lent}
use Rattle.model.proofs.Claims.{unworked-passed, claim_lent, claim-ready}
use Rattle.judging.proofs.Laws.{salted, long-enough, faces-fit, affords, next_is, refused-first, refused-last, amounts-fine, first_fine, accepted-last}
use Rattle.judging.proofs.judge.Goals as goal

pub returns-in_err-check_claim : goal.returns-in_err-check_claim
returns-in_err-check_claim c =
    let M = mesh_of c.args.cells c.args.faces c.args.volumes.now c.args.firsts.now c.args.seconds.now c.args.shares.now c.args.reaches.now in
    let k = claim_of c.args.fluxes.now c.args.outsides.now c.args.next.now c.args.claim.now c.args.releases.now in
    let p = err_from_is_err_and c.from_residual.result c.from_residual.ensures.1 in
    rw (p.1, p.2) (refused-first M c.args.masses.now k _ (sym c.in_err-check_claim.ensures))

pub judged-requires : goal.judged-requires
judged-requires c =
    let M = mesh_of c.args.cells c.args.faces c.args.volumes.now c.args.firsts.now c.args.seconds.now c.args.shares.now c.args.reaches.now in
    let k = claim_of c.args.fluxes.now c.args.outsides.now c.args.next.now c.args.claim.now c.args.releases.now in
    let u = sym c.in_ok-check_claim.ensures in
    let p = unworked-passed M c.args.masses.now k u in
    let l = claim_lent M c.args.masses.now k p.claim_tables_fine in
    (claim-ready M c.args.masses.now k p, field-lent M c.args.masses.now p.field_table_fine, l.releases_long, l.moveds_long)

pub returns-in_err-crossed : goal.returns-in_err-crossed
returns-in_err-crossed c =
    let M = mesh_of c.args.cells c.args.faces c.args.volumes.now c.args.firsts.now c.args.seconds.now c.args.shares.now c.args.reaches.now in
    let k = claim_of c.args.fluxes.now c.args.outsides.now c.args.next.now c.args.claim.now c.args.releases.now in
    let u = sym c.in_ok-check_claim.ensures in
    let p = err_from_is_err_and c.from_residual-in_err-crossed.result c.from_residual-in_err-crossed.ensures.1 in
    rw (p.1, p.2) (refused-last M c.args.masses.now k u _ c.in_err-crossed.ensures refl)

pub values-requires-clause-cells_in_bounds : goal.values-requires-clause-cells_in_bounds
values-requires-clause-cells_in_bounds c =
    let M = mesh_of c.args.cells c.args.faces c.args.volumes.now c.args.firsts.now c.args.seconds.now c.args.shares.now c.args.reaches.now in
    let k = claim_of c.args.fluxes.now c.args.outsides.now c.args.next.now c.args.claim.now c.args.releases.now in
    let u = sym c.in_ok-check_claim.ensures in
    let p = unworked-passed M c.args.masses.now k u in
    let l = claim_lent M c.args.masses.now k p.claim_tables_fine in
    l.nexts_long

pub values-requires-clause-long_enough : goal.values-requires-clause-long_enough
values-requires-clause-long_enough c =
    let M = mesh_of c.args.cells c.args.faces c.args.volumes.now c.args.firsts.now c.args.seconds.now c.args.shares.now c.args.reaches.now in
    let k = claim_of c.args.fluxes.now c.args.outsides.now c.args.next.now c.args.claim.now c.args.releases.now in
    let u = sym c.in_ok-check_claim.ensures in
    let p = unworked-passed M c.args.masses.now k u in
    let l = claim_lent M c.args.masses.now k p.claim_tables_fine in
    let r = claim-ready M c.args.masses.now k p in
    let m = field-lent M c.args.masses.now p.field_table_fine in
    long-enough M c.args.masses.now c.args.fluxes.now c.args.outsides.now c.args.releases.now r m l.releases_long c.args.claim.now l.moveds_long

pub values-requires-clause-faces_fit : goal.values-requires-clause-faces_fit
values-requires-clause-faces_fit c =
    let M = mesh_of c.args.cells c.args.faces c.args.volumes.now c.args.firsts.now c.args.seconds.now c.args.shares.now c.args.reaches.now in
    let k = claim_of c.args.fluxes.now c.args.outsides.now c.args.next.now c.args.claim.now c.args.releases.now in
    let u = sym c.in_ok-check_claim.ensures in
    let p = unworked-passed M c.args.masses.now k u in
    let l = claim_lent M c.args.masses.now k p.claim_tables_fine in
    let r = claim-ready M c.args.masses.now k p in
    let m = field-lent M c.args.masses.now p.field_table_fine in
    faces-fit M c.args.masses.now c.args.fluxes.now c.args.outsides.now c.args.releases.now r m l.releases_long c.args.claim.now l.moveds_long (first_fine M c.args.masses.now k u _ c.in_ok-crossed.ensures refl)

pub values-requires-clause-salted : goal.values-requires-clause-salted
values-requires-clause-salted c =
    let M = mesh_of c.args.cells c.args.faces c.args.volumes.now c.args.firsts.now c.args.seconds.now c.args.shares.now c.args.reaches.now in
    let k = claim_of c.args.fluxes.now c.args.outsides.now c.args.next.now c.args.claim.now c.args.releases.now in
    let u = sym c.in_ok-check_claim.ensures in
    let p = unworked-passed M c.args.masses.now k u in
    let l = claim_lent M c.args.masses.now k p.claim_tables_fine in
    let r = claim-ready M c.args.masses.now k p in
    let m = field-lent M c.args.masses.now p.field_table_fine in
    salted M c.args.masses.now c.args.fluxes.now c.args.outsides.now c.args.releases.now r m l.releases_long

pub values-requires-clause-affords : goal.values-requires-clause-affords
values-requires-clause-affords c =
    let M = mesh_of c.args.cells c.args.faces c.args.volumes.now c.args.firsts.now c.args.seconds.now c.args.shares.now c.args.reaches.now in
    let k = claim_of c.args.fluxes.now c.args.outsides.now c.args.next.now c.args.claim.now c.args.releases.now in
    let u = sym c.in_ok-check_claim.ensures in
    let p = unworked-passed M c.args.masses.now k u in
    let l = claim_lent M c.args.masses.now k p.claim_tables_fine in
    let r = claim-ready M c.args.masses.now k p in
    let m = field-lent M c.args.masses.now p.field_table_fine in
    affords M c.args.masses.now c.args.fluxes.now c.args.outsides.now c.args.releases.now r m l.releases_long c.args.claim.now l.moveds_long (amounts-fine M c.args.masses.now k u _ c.in_ok-crossed.ensures refl)

pub returns : goal.returns
returns c =
    let M = mesh_of c.args.cells c.args.faces c.args.volumes.now c.args.firsts.now c.args.seconds.now c.args.shares.now c.args.reaches.now in
    let k = claim_of c.args.fluxes.now c.args.outsides.now c.args.next.now c.args.claim.now c.args.releases.now in
    let u = sym c.in_ok-check_claim.ensures in
    let p = unworked-passed M c.args.masses.now k u in
    let l = claim_lent M c.args.masses.now k p.claim_tables_fine in
    let r = claim-ready M c.args.masses.now k p in
    let m = field-lent M c.args.masses.now p.field_table_fine in
    accepted-last M c.args.masses.now k u _ c.in_ok-crossed.ensures refl _
    (c.values.ensures ∙ next_is M c.args.masses.now c.args.fluxes.now c.args.outsides.now c.args.releases.now r m l.releases_long c.args.claim.now l.moveds_long c.args.next.now)
