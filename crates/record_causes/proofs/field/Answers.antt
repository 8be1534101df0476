-- As for a mesh, and then the salt: the volumes that passed are what its test divides by.
use Rattle.std.proofs.Common.{sym, ◌∙◌, [], ◌∷◌}
use Rattle.std.proofs.lemmas.Result.{err_from_is_err_and}
use Rattle.model.specs.Causes.{field_values, salt_good}
use Rattle.model.proofs.Verdicts.{refused-at, fine-all, both-fine, past}
use Rattle.model.proofs.Accepted.{few, mesh-long, salt-asks-within}
use Rattle.record_causes.specs.Verdicts.{most_of, field_write_verdict}
use Rattle.record_causes.proofs.Refusing.{most-within}
use Rattle.record_causes.proofs.field.Goals as goal

pub returns-in_err-field_lent : goal.returns-in_err-field_lent
unfolding field_write_verdict
returns-in_err-field_lent c =
    let p = err_from_is_err_and c.from_residual.result c.from_residual.ensures.1 in
    rw (p.1, p.2) (sym (refused-at [] (_ ∷ _ ∷ _ ∷ []) tt (sym c.in_err-field_lent.ensures)))

pub field_bytes-requires : goal.field_bytes-requires
field_bytes-requires c = (few _ _ (sym c.in_ok-field_lent.ensures)).0

pub returns-in_err-long : goal.returns-in_err-long
unfolding field_write_verdict
returns-in_err-long c =
    let p = err_from_is_err_and c.from_residual-in_err-long.result c.from_residual-in_err-long.ensures.1 in
    rw (p.1, p.2) (sym (refused-at (_ ∷ []) (_ ∷ _ ∷ []) ((sym c.in_ok-field_lent.ensures), tt) (sym (rw c.field_bytes.ensures at c.in_err-long.ensures))))

pub values-requires : goal.values-requires
values-requires c = mesh-long _ (both-fine _ _ (sym c.in_ok-field_lent.ensures)).0

pub returns-in_err-values : goal.returns-in_err-values
unfolding field_write_verdict
returns-in_err-values c =
    let p = err_from_is_err_and c.from_residual-in_err-values.result c.from_residual-in_err-values.ensures.1 in
    rw (p.1, p.2) (sym (refused-at (_ ∷ _ ∷ []) (_ ∷ []) ((sym c.in_ok-field_lent.ensures), ((sym (rw c.field_bytes.ensures at c.in_ok-long.ensures)), tt)) (sym (rw c.most_of.ensures at c.in_err-values.ensures))))

pub values-requires-2 : goal.values-requires-2
values-requires-2 c =
    let a = salt-asks-within (most_of c.args.width) (most-within c.args.width) _ _ (sym c.in_ok-field_lent.ensures) (sym (rw c.most_of.ensures at c.in_ok-values.ensures)) in
    record { cells_in_bounds = a.0; by_index = a.1 }

pub returns : goal.returns
unfolding field_write_verdict field_values salt_good
returns c =
    c.values-2.ensures ∙ sym (past _ (fine-all (_ ∷ _ ∷ _ ∷ []) ((sym c.in_ok-field_lent.ensures), ((sym (rw c.field_bytes.ensures at c.in_ok-long.ensures)), ((sym (rw c.most_of.ensures at c.in_ok-values.ensures)), tt)))))
