-- The tables that passed give what the length and the values ask; the tests follow in the order of the causes.
use Rattle.std.proofs.Common.{sym, ◌∙◌, [], ◌∷◌}
use Rattle.std.proofs.lemmas.Result.{err_from_is_err_and}
use Rattle.model.specs.Causes.{outside_good, flux_good}
use Rattle.model.proofs.Verdicts.{refused-at, fine-all, both-fine, long-fine}
use Rattle.model.proofs.Accepted.{counted, mesh-long}
use Rattle.record_causes.specs.Verdicts.{step_write_verdict}
use Rattle.record_causes.proofs.Refusing.{past_first}
use Rattle.record_causes.proofs.step.Goals as goal

pub returns-in_err-mesh_lent : goal.returns-in_err-mesh_lent
unfolding step_write_verdict
returns-in_err-mesh_lent c =
    let p = err_from_is_err_and c.from_residual.result c.from_residual.ensures.1 in
    rw (p.1, p.2) (sym (refused-at [] (_ ∷ _ ∷ _ ∷ _ ∷ _ ∷ _ ∷ _ ∷ _ ∷ []) tt (sym c.in_err-mesh_lent.ensures)))

pub returns-in_err-long : goal.returns-in_err-long
unfolding step_write_verdict
returns-in_err-long c =
    let p = err_from_is_err_and c.from_residual-in_err-long.result c.from_residual-in_err-long.ensures.1 in
    rw (p.1, p.2) (sym (refused-at (_ ∷ []) (_ ∷ _ ∷ _ ∷ _ ∷ _ ∷ _ ∷ _ ∷ []) ((sym c.in_ok-mesh_lent.ensures), tt) (sym c.in_err-long.ensures)))

pub returns-in_err-long-2 : goal.returns-in_err-long-2
unfolding step_write_verdict
returns-in_err-long-2 c =
    let p = err_from_is_err_and c.from_residual-in_err-long-2.result c.from_residual-in_err-long-2.ensures.1 in
    rw (p.1, p.2) (sym (refused-at (_ ∷ _ ∷ []) (_ ∷ _ ∷ _ ∷ _ ∷ _ ∷ _ ∷ []) ((sym c.in_ok-mesh_lent.ensures), ((sym c.in_ok-long.ensures), tt)) (sym c.in_err-long-2.ensures)))

pub step_bytes-requires : goal.step_bytes-requires
step_bytes-requires c =
    let e = sym c.in_ok-mesh_lent.ensures in
    let n = counted _ (both-fine _ _ e).0 in
    (n.few_cells, n.few_faces, (mesh-long _ e).seconds_long)

pub returns-in_err-long-3 : goal.returns-in_err-long-3
unfolding step_write_verdict
returns-in_err-long-3 c =
    let p = err_from_is_err_and c.from_residual-in_err-long-3.result c.from_residual-in_err-long-3.ensures.1 in
    rw (p.1, p.2) (sym (refused-at (_ ∷ _ ∷ _ ∷ []) (_ ∷ _ ∷ _ ∷ _ ∷ _ ∷ []) ((sym c.in_ok-mesh_lent.ensures), ((sym c.in_ok-long.ensures), ((sym c.in_ok-long-2.ensures), tt))) (sym (rw c.step_bytes.ensures at c.in_err-long-3.ensures))))

pub returns-in_err-long-4 : goal.returns-in_err-long-4
unfolding step_write_verdict
returns-in_err-long-4 c =
    let p = err_from_is_err_and c.from_residual-in_err-long-4.result c.from_residual-in_err-long-4.ensures.1 in
    rw (p.1, p.2) (sym (refused-at (_ ∷ _ ∷ _ ∷ _ ∷ []) (_ ∷ _ ∷ _ ∷ _ ∷ []) ((sym c.in_ok-mesh_lent.ensures), ((sym c.in_ok-long.ensures), ((sym c.in_ok-long-2.ensures), ((sym (rw c.step_bytes.ensures at c.in_ok-long-3.ensures)), tt)))) (sym c.in_err-long-4.ensures)))

pub values-requires : goal.values-requires
values-requires c = mesh-long _ (sym c.in_ok-mesh_lent.ensures)

pub returns-in_err-values : goal.returns-in_err-values
unfolding step_write_verdict
returns-in_err-values c =
    let p = err_from_is_err_and c.from_residual-in_err-values.result c.from_residual-in_err-values.ensures.1 in
    rw (p.1, p.2) (sym (refused-at (_ ∷ _ ∷ _ ∷ _ ∷ _ ∷ []) (_ ∷ _ ∷ _ ∷ []) ((sym c.in_ok-mesh_lent.ensures), ((sym c.in_ok-long.ensures), ((sym c.in_ok-long-2.ensures), ((sym (rw c.step_bytes.ensures at c.in_ok-long-3.ensures)), ((sym c.in_ok-long-4.ensures), tt))))) (sym (rw c.most_of.ensures at c.in_err-values.ensures))))

pub values-requires-2 : goal.values-requires-2
values-requires-2 c = long-fine _ _ _ (sym c.in_ok-long-4.ensures)

pub returns-in_err-values-2 : goal.returns-in_err-values-2
unfolding step_write_verdict
returns-in_err-values-2 c =
    let p = err_from_is_err_and c.from_residual-in_err-values-2.result c.from_residual-in_err-values-2.ensures.1 in
    rw (p.1, p.2) (sym (refused-at (_ ∷ _ ∷ _ ∷ _ ∷ _ ∷ _ ∷ []) (_ ∷ _ ∷ []) ((sym c.in_ok-mesh_lent.ensures), ((sym c.in_ok-long.ensures), ((sym c.in_ok-long-2.ensures), ((sym (rw c.step_bytes.ensures at c.in_ok-long-3.ensures)), ((sym c.in_ok-long-4.ensures), ((sym (rw c.most_of.ensures at c.in_ok-values.ensures)), tt)))))) (sym c.in_err-values-2.ensures)))

pub values-requires-3 : goal.values-requires-3
values-requires-3 c =
    let m = mesh-long _ (sym c.in_ok-mesh_lent.ensures) in
    (m.seconds_long, m.reaches_long, long-fine _ _ _ (sym c.in_ok-long.ensures), long-fine _ _ _ (sym c.in_ok-long-2.ensures))

pub returns : goal.returns
unfolding step_write_verdict outside_good flux_good
returns c =
    let v = rw c.most_of-2.ensures at c.values-3.ensures in
    v ∙ sym (past_first _ _ (fine-all (_ ∷ _ ∷ _ ∷ _ ∷ _ ∷ _ ∷ _ ∷ []) ((sym c.in_ok-mesh_lent.ensures), ((sym c.in_ok-long.ensures), ((sym c.in_ok-long-2.ensures), ((sym (rw c.step_bytes.ensures at c.in_ok-long-3.ensures)), ((sym c.in_ok-long-4.ensures), ((sym (rw c.most_of.ensures at c.in_ok-values.ensures)), ((sym c.in_ok-values-2.ensures), tt)))))))))
