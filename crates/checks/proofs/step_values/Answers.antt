-- As `check_step`, of the causes of values: each group asks for what those before it have found.
use Rattle.std.proofs.Common.{[], ◌∷◌, sym, ◌∙◌}
use Rattle.std.proofs.lemmas.Result.{err_from_is_err_and}
use Rattle.model.specs.Mesh.{incoming, outgoing, entering, leaving}
use Rattle.model.specs.Causes.{field_values, salt_good, raised_values, raised_good, outside_good, flux_good, balance_good, outflow_good}
use Rattle.model.proofs.Verdicts.{refused-at, past, out}
use Rattle.checks.proofs.Laws.{in-groups, field-asks, raised-asks, flows-ask}
use Rattle.checks.proofs.step_values.Goals as goal

pub returns-in_err-values : goal.returns-in_err-values
returns-in_err-values c = let p = err_from_is_err_and c.from_residual.result c.from_residual.ensures.1 in
    rw (p.1, p.2) (sym (in-groups _ _ _ ∙ refused-at [] (_ ∷ _ ∷ []) tt (sym c.in_err-values.ensures)))

pub values-requires-2-clause-by_index : goal.values-requires-2-clause-by_index
values-requires-2-clause-by_index c = (field-asks _ _ _ c.requires (sym c.in_ok-values.ensures)).1

pub returns-in_err-values-2 : goal.returns-in_err-values-2
unfolding field_values salt_good raised_values raised_good outside_good flux_good
returns-in_err-values-2 c = let p = err_from_is_err_and c.from_residual-in_err-values-2.result c.from_residual-in_err-values-2.ensures.1 in
    rw (p.1, p.2) (sym (in-groups _ _ _ ∙ refused-at (_ ∷ []) (_ ∷ []) (sym c.in_ok-values.ensures, tt)
    (out _ (out _ (sym c.in_err-values-2.ensures)))))

pub values-requires-3-clause-by_index : goal.values-requires-3-clause-by_index
values-requires-3-clause-by_index c = (raised-asks _ _ _ c.requires (sym c.in_ok-values.ensures)).1

pub returns-in_err-values-3 : goal.returns-in_err-values-3
unfolding field_values salt_good raised_values raised_good outside_good flux_good
returns-in_err-values-3 c = let p = err_from_is_err_and c.from_residual-in_err-values-3.result c.from_residual-in_err-values-3.ensures.1 in
    rw (p.1, p.2) (sym (in-groups _ _ _ ∙ refused-at (_ ∷ []) (_ ∷ []) (sym c.in_ok-values.ensures, tt)
    (out _ (past _ (sym c.in_ok-values-2.ensures) ∙ sym c.in_err-values-3.ensures))))

pub returns-in_err-values-4 : goal.returns-in_err-values-4
unfolding field_values salt_good raised_values raised_good outside_good flux_good
returns-in_err-values-4 c = let p = err_from_is_err_and c.from_residual-in_err-values-4.result c.from_residual-in_err-values-4.ensures.1 in
    rw (p.1, p.2) (sym (in-groups _ _ _ ∙ refused-at (_ ∷ []) (_ ∷ []) (sym c.in_ok-values.ensures, tt)
    (past _ (past _ (sym c.in_ok-values-2.ensures) ∙ sym c.in_ok-values-3.ensures) ∙ sym c.in_err-values-4.ensures)))

pub values-requires-5-clause-faces_fit : goal.values-requires-5-clause-faces_fit
unfolding field_values salt_good raised_values raised_good outside_good flux_good
values-requires-5-clause-faces_fit c =
    let salt = past _ (sym c.in_ok-values-2.ensures) ∙ sym c.in_ok-values-3.ensures in
    (flows-ask _ _ _ c.requires (sym c.in_ok-values.ensures) (past _ salt ∙ sym c.in_ok-values-4.ensures)).1

pub returns : goal.returns
unfolding field_values salt_good raised_values raised_good outside_good flux_good balance_good outflow_good incoming outgoing entering leaving
returns c =
    let salt = past _ (sym c.in_ok-values-2.ensures) ∙ sym c.in_ok-values-3.ensures in
    c.values-5.ensures
    ∙ sym (in-groups _ _ _ ∙ past _ (past _ (sym c.in_ok-values.ensures) ∙ (past _ salt ∙ sym c.in_ok-values-4.ensures)))
