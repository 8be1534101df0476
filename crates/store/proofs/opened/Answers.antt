-- Lengths, then the volumes: the first that refuses is the answer.
use Rattle.std.proofs.Common.{sym, ◌∙◌, [], ◌∷◌}
use Rattle.std.proofs.lemmas.Result.{err_from_is_err_and}
use Rattle.model.proofs.Verdicts.{both-fine, refused-at, fine-all, past}
use Rattle.model.proofs.Accepted.{mesh-long}
use Rattle.store.specs.Calls.{opened_verdict, store_table}
use Rattle.store.proofs.opened.Goals as goal

pub returns-in_err-field_lent : goal.returns-in_err-field_lent
unfolding opened_verdict store_table
returns-in_err-field_lent c =
    let p = err_from_is_err_and c.from_residual.result c.from_residual.ensures.1 in
    rw (p.1, p.2) (sym (refused-at [] (_ ∷ _ ∷ []) tt (sym c.in_err-field_lent.ensures)))

pub returns-in_err-long : goal.returns-in_err-long
unfolding opened_verdict store_table
returns-in_err-long c =
    let p = err_from_is_err_and c.from_residual-in_err-long.result c.from_residual-in_err-long.ensures.1 in
    rw (p.1, p.2) (sym (refused-at (_ ∷ []) (_ ∷ []) (sym c.in_ok-field_lent.ensures, tt) (sym c.in_err-long.ensures)))

pub values-requires : goal.values-requires
values-requires c = mesh-long _ (both-fine _ _ (sym c.in_ok-field_lent.ensures)).0

pub returns : goal.returns
unfolding opened_verdict store_table
returns c =
    c.values.ensures ∙ sym (past _ (fine-all (_ ∷ _ ∷ []) (sym c.in_ok-field_lent.ensures, (sym c.in_ok-long.ensures, tt))))
