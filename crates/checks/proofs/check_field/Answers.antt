-- Lengths, then the mesh, then the field: each part that is fine is passed, and the first that refuses is the answer.
use Rattle.std.proofs.Common.{[], ◌∷◌, sym, ◌∙◌}
use Rattle.std.proofs.lemmas.Result.{err_from_is_err_and}
use Rattle.model.specs.Causes.{mesh_field_verdict, field_values, salt_good}
use Rattle.model.proofs.Verdicts.{refused-at, both-fine, past}
use Rattle.model.proofs.Accepted.{mesh-long, salt-asks}
use Rattle.checks.proofs.check_field.Goals as goal

pub returns-in_err-field_lent : goal.returns-in_err-field_lent
unfolding mesh_field_verdict
returns-in_err-field_lent c = let p = err_from_is_err_and c.from_residual.result c.from_residual.ensures.1 in
    rw (p.1, p.2) (sym (refused-at [] (_ ∷ _ ∷ []) tt (sym c.in_err-field_lent.ensures)))

pub values-requires : goal.values-requires
values-requires c = mesh-long _ (both-fine _ _ (sym c.in_ok-field_lent.ensures)).0

pub returns-in_err-values : goal.returns-in_err-values
unfolding mesh_field_verdict
returns-in_err-values c = let p = err_from_is_err_and c.from_residual-in_err-values.result c.from_residual-in_err-values.ensures.1 in
    rw (p.1, p.2) (sym (refused-at (_ ∷ []) (_ ∷ []) (sym c.in_ok-field_lent.ensures, tt) (sym c.in_err-values.ensures)))

pub values-requires-2-clause-cells_in_bounds : goal.values-requires-2-clause-cells_in_bounds
values-requires-2-clause-cells_in_bounds c = (salt-asks _ _ (sym c.in_ok-field_lent.ensures) (sym c.in_ok-values.ensures)).0

pub values-requires-2-clause-by_index : goal.values-requires-2-clause-by_index
values-requires-2-clause-by_index c = (salt-asks _ _ (sym c.in_ok-field_lent.ensures) (sym c.in_ok-values.ensures)).1

pub returns : goal.returns
unfolding mesh_field_verdict field_values salt_good
returns c = c.values-2.ensures ∙ sym (past _ (past _ (sym c.in_ok-field_lent.ensures) ∙ sym c.in_ok-values.ensures))
