-- Each test in its turn: those before are fine, and the first that refuses is the answer.
use Rattle.std.proofs.Common.{[], ◌∷◌, sym, ◌∙◌}
use Rattle.std.proofs.lemmas.Result.{err_from_is_err_and}
use Rattle.model.proofs.Verdicts.{past, fine-all, refused-at}
use Rattle.charge.proofs.lent.Goals as goal

pub returns-in_err-need : goal.returns-in_err-need
returns-in_err-need c = let p = err_from_is_err_and c.from_residual.result c.from_residual.ensures.1 in
    rw (p.1, p.2) (sym (refused-at [] (_ ∷ _ ∷ _ ∷ []) tt (sym (rw c.between.ensures at c.in_err-need.ensures))))

pub returns-in_err-long : goal.returns-in_err-long
returns-in_err-long c = let p = err_from_is_err_and c.from_residual-in_err-long.result c.from_residual-in_err-long.ensures.1 in
    rw (p.1, p.2) (sym (refused-at (_ ∷ []) (_ ∷ _ ∷ []) (sym (rw c.between.ensures at c.in_ok-need.ensures), tt) (sym c.in_err-long.ensures)))

pub returns-in_err-long-2 : goal.returns-in_err-long-2
returns-in_err-long-2 c = let p = err_from_is_err_and c.from_residual-in_err-long-2.result c.from_residual-in_err-long-2.ensures.1 in
    rw (p.1, p.2) (sym (refused-at (_ ∷ _ ∷ []) (_ ∷ []) (sym (rw c.between.ensures at c.in_ok-need.ensures), (sym c.in_ok-long.ensures, tt)) (sym c.in_err-long-2.ensures)))

pub returns : goal.returns
returns c =
    c.need-2.ensures
    ∙ sym (past _ (fine-all (_ ∷ _ ∷ _ ∷ []) (sym (rw c.between.ensures at c.in_ok-need.ensures), (sym c.in_ok-long.ensures, (sym c.in_ok-long-2.ensures, tt)))))
