-- The lengths, then the values: as of a step, with the tables of a judging.
use Rattle.std.proofs.Common.{sym, ◌∙◌}
use Rattle.std.proofs.lemmas.Result.{err_from_is_err_and}
use Rattle.model.specs.Mesh.{mesh_of}
use Rattle.model.specs.Claims.{claim_of, claim_tables}
use Rattle.model.proofs.Verdicts.{past, out}
use Rattle.checks.proofs.Laws.{claim-lengths-first, claim-asks}
use Rattle.checks.proofs.check_claim.Goals as goal

pub returns-in_err-field_lent : goal.returns-in_err-field_lent
returns-in_err-field_lent c = let p = err_from_is_err_and c.from_residual.result c.from_residual.ensures.1 in
    rw (p.1, p.2) (sym (claim-lengths-first _ _ _ ∙ out _ (out _ (sym c.in_err-field_lent.ensures))))

pub returns-in_err-claim_lent : goal.returns-in_err-claim_lent
unfolding claim_tables
returns-in_err-claim_lent c = let p = err_from_is_err_and c.from_residual-in_err-claim_lent.result c.from_residual-in_err-claim_lent.ensures.1 in
    rw (p.1, p.2) (sym (claim-lengths-first _ _ _ ∙ out _ (past _ (sym c.in_ok-field_lent.ensures) ∙ sym c.in_err-claim_lent.ensures)))

pub step_values-requires : goal.step_values-requires
unfolding claim_tables
step_values-requires c =
    claim-asks (mesh_of c.args.cells c.args.faces c.args.volumes.now c.args.firsts.now c.args.seconds.now c.args.shares.now c.args.reaches.now) c.args.masses.now
    (claim_of c.args.fluxes.now c.args.outsides.now c.args.next.now c.args.claim.now c.args.releases.now)
    (sym c.in_ok-field_lent.ensures) (sym c.in_ok-claim_lent.ensures)

pub returns : goal.returns
unfolding claim_tables
returns c =
    c.step_values.ensures
    ∙ sym (claim-lengths-first _ _ _ ∙ past _ (past _ (sym c.in_ok-field_lent.ensures) ∙ sym c.in_ok-claim_lent.ensures))
