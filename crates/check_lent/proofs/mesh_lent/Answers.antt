-- The tests stand in the order of the definitions: those before are fine, and the first that refuses is the answer.
use Rattle.std.proofs.Common.{[], ◌∷◌, sym, ◌∙◌}
use Rattle.std.proofs.lemmas.Result.{err_from_is_err_and}
use Rattle.model.specs.Causes.{counts, mesh_tables}
use Rattle.model.proofs.Verdicts.{past, out, fine-all, refused-at}
use Rattle.check_lent.proofs.mesh_lent.Goals as goal

pub returns-in_err-counts_within : goal.returns-in_err-counts_within
unfolding counts mesh_tables
returns-in_err-counts_within c = let p = err_from_is_err_and c.from_residual.result c.from_residual.ensures.1 in
    rw (p.1, p.2) (sym (out _ (sym c.in_err-counts_within.ensures)))

pub returns-in_err-long : goal.returns-in_err-long
unfolding counts mesh_tables
returns-in_err-long c = let p = err_from_is_err_and c.from_residual-in_err-long.result c.from_residual-in_err-long.ensures.1 in
    rw (p.1, p.2) (sym (past _ (sym c.in_ok-counts_within.ensures) ∙ refused-at [] (_ ∷ _ ∷ _ ∷ _ ∷ []) tt (sym c.in_err-long.ensures)))

pub returns-in_err-long-2 : goal.returns-in_err-long-2
unfolding counts mesh_tables
returns-in_err-long-2 c = let p = err_from_is_err_and c.from_residual-in_err-long-2.result c.from_residual-in_err-long-2.ensures.1 in
    rw (p.1, p.2) (sym (past _ (sym c.in_ok-counts_within.ensures) ∙ refused-at (_ ∷ []) (_ ∷ _ ∷ _ ∷ []) (sym c.in_ok-long.ensures, tt) (sym c.in_err-long-2.ensures)))

pub returns-in_err-long-3 : goal.returns-in_err-long-3
unfolding counts mesh_tables
returns-in_err-long-3 c = let p = err_from_is_err_and c.from_residual-in_err-long-3.result c.from_residual-in_err-long-3.ensures.1 in
    rw (p.1, p.2) (sym (past _ (sym c.in_ok-counts_within.ensures) ∙ refused-at (_ ∷ _ ∷ []) (_ ∷ _ ∷ []) (sym c.in_ok-long.ensures, (sym c.in_ok-long-2.ensures, tt)) (sym c.in_err-long-3.ensures)))

pub returns-in_err-long-4 : goal.returns-in_err-long-4
unfolding counts mesh_tables
returns-in_err-long-4 c = let p = err_from_is_err_and c.from_residual-in_err-long-4.result c.from_residual-in_err-long-4.ensures.1 in
    rw (p.1, p.2) (sym (past _ (sym c.in_ok-counts_within.ensures) ∙ refused-at (_ ∷ _ ∷ _ ∷ []) (_ ∷ []) (sym c.in_ok-long.ensures, (sym c.in_ok-long-2.ensures, (sym c.in_ok-long-3.ensures, tt))) (sym c.in_err-long-4.ensures)))

pub returns : goal.returns
unfolding counts mesh_tables
returns c =
    c.long-5.ensures
    ∙ sym (past _ (sym c.in_ok-counts_within.ensures) ∙ past _ (fine-all (_ ∷ _ ∷ _ ∷ _ ∷ []) (sym c.in_ok-long.ensures, (sym c.in_ok-long-2.ensures, (sym c.in_ok-long-3.ensures, (sym c.in_ok-long-4.ensures, tt))))))
