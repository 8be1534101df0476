-- The counts, then each test of lengths in its turn.
use Rattle.std.proofs.Common.{sym, ◌∙◌, [], ◌∷◌}
use Rattle.std.proofs.lemmas.Result.{err_from_is_err_and}
use Rattle.model.proofs.Verdicts.{out, refused-at, fine-all, past}
use Rattle.cutting_causes.proofs.lengths.Goals as goal

pub returns-in_err-counts_within : goal.returns-in_err-counts_within
returns-in_err-counts_within c =
    let p = err_from_is_err_and c.from_residual.result c.from_residual.ensures.1 in
    rw (p.1, p.2) (sym (out _ (sym c.in_err-counts_within.ensures)))

pub returns-in_err-all_long : goal.returns-in_err-all_long
returns-in_err-all_long c =
    let p = err_from_is_err_and c.from_residual-in_err-all_long.result c.from_residual-in_err-all_long.ensures.1 in
    rw (p.1, p.2)
    (sym (past _ (sym c.in_ok-counts_within.ensures) ∙ refused-at [] (_ ∷ _ ∷ _ ∷ _ ∷ _ ∷ _ ∷ _ ∷ _ ∷ _ ∷ []) tt (sym c.in_err-all_long.ensures)))

pub returns-in_err-all_long-2 : goal.returns-in_err-all_long-2
returns-in_err-all_long-2 c =
    let p = err_from_is_err_and c.from_residual-in_err-all_long-2.result c.from_residual-in_err-all_long-2.ensures.1 in
    rw (p.1, p.2)
    (sym (past _ (sym c.in_ok-counts_within.ensures) ∙ refused-at (_ ∷ []) (_ ∷ _ ∷ _ ∷ _ ∷ _ ∷ _ ∷ _ ∷ _ ∷ []) ((sym c.in_ok-all_long.ensures), tt) (sym c.in_err-all_long-2.ensures)))

pub returns-in_err-all_long-3 : goal.returns-in_err-all_long-3
returns-in_err-all_long-3 c =
    let p = err_from_is_err_and c.from_residual-in_err-all_long-3.result c.from_residual-in_err-all_long-3.ensures.1 in
    rw (p.1, p.2)
    (sym (past _ (sym c.in_ok-counts_within.ensures) ∙ refused-at (_ ∷ _ ∷ []) (_ ∷ _ ∷ _ ∷ _ ∷ _ ∷ _ ∷ _ ∷ []) ((sym c.in_ok-all_long.ensures), ((sym c.in_ok-all_long-2.ensures), tt)) (sym c.in_err-all_long-3.ensures)))

pub returns-in_err-all_long-4 : goal.returns-in_err-all_long-4
returns-in_err-all_long-4 c =
    let p = err_from_is_err_and c.from_residual-in_err-all_long-4.result c.from_residual-in_err-all_long-4.ensures.1 in
    rw (p.1, p.2)
    (sym (past _ (sym c.in_ok-counts_within.ensures) ∙ refused-at (_ ∷ _ ∷ _ ∷ []) (_ ∷ _ ∷ _ ∷ _ ∷ _ ∷ _ ∷ []) ((sym c.in_ok-all_long.ensures), ((sym c.in_ok-all_long-2.ensures), ((sym c.in_ok-all_long-3.ensures), tt))) (sym c.in_err-all_long-4.ensures)))

pub returns-in_err-all_long-5 : goal.returns-in_err-all_long-5
returns-in_err-all_long-5 c =
    let p = err_from_is_err_and c.from_residual-in_err-all_long-5.result c.from_residual-in_err-all_long-5.ensures.1 in
    rw (p.1, p.2)
    (sym (past _ (sym c.in_ok-counts_within.ensures) ∙ refused-at (_ ∷ _ ∷ _ ∷ _ ∷ []) (_ ∷ _ ∷ _ ∷ _ ∷ _ ∷ []) ((sym c.in_ok-all_long.ensures), ((sym c.in_ok-all_long-2.ensures), ((sym c.in_ok-all_long-3.ensures), ((sym c.in_ok-all_long-4.ensures), tt)))) (sym c.in_err-all_long-5.ensures)))

pub returns-in_err-all_long-6 : goal.returns-in_err-all_long-6
returns-in_err-all_long-6 c =
    let p = err_from_is_err_and c.from_residual-in_err-all_long-6.result c.from_residual-in_err-all_long-6.ensures.1 in
    rw (p.1, p.2)
    (sym (past _ (sym c.in_ok-counts_within.ensures) ∙ refused-at (_ ∷ _ ∷ _ ∷ _ ∷ _ ∷ []) (_ ∷ _ ∷ _ ∷ _ ∷ []) ((sym c.in_ok-all_long.ensures), ((sym c.in_ok-all_long-2.ensures), ((sym c.in_ok-all_long-3.ensures), ((sym c.in_ok-all_long-4.ensures), ((sym c.in_ok-all_long-5.ensures), tt))))) (sym c.in_err-all_long-6.ensures)))

pub returns-in_err-all_long-7 : goal.returns-in_err-all_long-7
returns-in_err-all_long-7 c =
    let p = err_from_is_err_and c.from_residual-in_err-all_long-7.result c.from_residual-in_err-all_long-7.ensures.1 in
    rw (p.1, p.2)
    (sym (past _ (sym c.in_ok-counts_within.ensures) ∙ refused-at (_ ∷ _ ∷ _ ∷ _ ∷ _ ∷ _ ∷ []) (_ ∷ _ ∷ _ ∷ []) ((sym c.in_ok-all_long.ensures), ((sym c.in_ok-all_long-2.ensures), ((sym c.in_ok-all_long-3.ensures), ((sym c.in_ok-all_long-4.ensures), ((sym c.in_ok-all_long-5.ensures), ((sym c.in_ok-all_long-6.ensures), tt)))))) (sym c.in_err-all_long-7.ensures)))

pub returns-in_err-all_long-8 : goal.returns-in_err-all_long-8
returns-in_err-all_long-8 c =
    let p = err_from_is_err_and c.from_residual-in_err-all_long-8.result c.from_residual-in_err-all_long-8.ensures.1 in
    rw (p.1, p.2)
    (sym (past _ (sym c.in_ok-counts_within.ensures) ∙ refused-at (_ ∷ _ ∷ _ ∷ _ ∷ _ ∷ _ ∷ _ ∷ []) (_ ∷ _ ∷ []) ((sym c.in_ok-all_long.ensures), ((sym c.in_ok-all_long-2.ensures), ((sym c.in_ok-all_long-3.ensures), ((sym c.in_ok-all_long-4.ensures), ((sym c.in_ok-all_long-5.ensures), ((sym c.in_ok-all_long-6.ensures), ((sym c.in_ok-all_long-7.ensures), tt))))))) (sym c.in_err-all_long-8.ensures)))

pub returns-in_err-all_long-9 : goal.returns-in_err-all_long-9
returns-in_err-all_long-9 c =
    let p = err_from_is_err_and c.from_residual-in_err-all_long-9.result c.from_residual-in_err-all_long-9.ensures.1 in
    rw (p.1, p.2)
    (sym (past _ (sym c.in_ok-counts_within.ensures) ∙ refused-at (_ ∷ _ ∷ _ ∷ _ ∷ _ ∷ _ ∷ _ ∷ _ ∷ []) (_ ∷ []) ((sym c.in_ok-all_long.ensures), ((sym c.in_ok-all_long-2.ensures), ((sym c.in_ok-all_long-3.ensures), ((sym c.in_ok-all_long-4.ensures), ((sym c.in_ok-all_long-5.ensures), ((sym c.in_ok-all_long-6.ensures), ((sym c.in_ok-all_long-7.ensures), ((sym c.in_ok-all_long-8.ensures), tt)))))))) (sym c.in_err-all_long-9.ensures)))

pub returns : goal.returns
returns c =
    c.long.ensures
    ∙ sym (past _ (sym c.in_ok-counts_within.ensures) ∙ past _ (fine-all (_ ∷ _ ∷ _ ∷ _ ∷ _ ∷ _ ∷ _ ∷ _ ∷ _ ∷ []) ((sym c.in_ok-all_long.ensures), ((sym c.in_ok-all_long-2.ensures), ((sym c.in_ok-all_long-3.ensures), ((sym c.in_ok-all_long-4.ensures), ((sym c.in_ok-all_long-5.ensures), ((sym c.in_ok-all_long-6.ensures), ((sym c.in_ok-all_long-7.ensures), ((sym c.in_ok-all_long-8.ensures), ((sym c.in_ok-all_long-9.ensures), tt)))))))))))
