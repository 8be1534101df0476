-- The three tests stand in the order of the definition.
use Rattle.std.proofs.Common.{sym, ◌∙◌, [], ◌∷◌}
use Rattle.std.proofs.lemmas.Result.{err_from_is_err_and}
use Rattle.model.proofs.Verdicts.{refused-at, fine-all, past}
use Rattle.cutting_causes.proofs.all_long.Goals as goal

pub returns-in_err-long : goal.returns-in_err-long
returns-in_err-long c =
    let p = err_from_is_err_and c.from_residual.result c.from_residual.ensures.1 in
    rw (p.1, p.2) (sym (refused-at [] (_ ∷ _ ∷ []) tt (sym c.in_err-long.ensures)))

pub returns-in_err-long-2 : goal.returns-in_err-long-2
returns-in_err-long-2 c =
    let p = err_from_is_err_and c.from_residual-in_err-long-2.result c.from_residual-in_err-long-2.ensures.1 in
    rw (p.1, p.2) (sym (refused-at (_ ∷ []) (_ ∷ []) ((sym c.in_ok-long.ensures), tt) (sym c.in_err-long-2.ensures)))

pub returns : goal.returns
returns c = c.long-3.ensures ∙ sym (past _ (fine-all (_ ∷ _ ∷ []) ((sym c.in_ok-long.ensures), ((sym c.in_ok-long-2.ensures), tt))))
