-- Lengths and volumes, then the masses and the store, in the order of the definition.
use Rattle.std.proofs.Common.{sym, ◌∙◌}
use Rattle.std.proofs.lemmas.Result.{err_from_is_err_and}
use Rattle.model.proofs.Verdicts.{past, out}
use Rattle.model.specs.Causes.{field_values, salt_good}
use Rattle.store.proofs.Judged.{keep-groups, opened-asks}
use Rattle.store.proofs.may_keep.Goals as goal

pub returns-in_err-opened : goal.returns-in_err-opened
returns-in_err-opened c =
    let p = err_from_is_err_and c.from_residual.result c.from_residual.ensures.1 in
    rw (p.1, p.2) (sym (keep-groups _ _ _ _ _ ∙ out _ (sym c.in_err-opened.ensures)))

pub values-requires : goal.values-requires
values-requires c =
    let o = (opened-asks _ _ 0 _ _ (sym c.in_ok-opened.ensures)).0 in
    record { cells_in_bounds = o.0; by_index = o.1 }

pub returns-in_err-values : goal.returns-in_err-values
unfolding field_values salt_good
returns-in_err-values c =
    let p = err_from_is_err_and c.from_residual-in_err-values.result c.from_residual-in_err-values.ensures.1 in
    rw (p.1, p.2) (sym (keep-groups _ _ _ _ _ ∙ past _ (sym c.in_ok-opened.ensures) ∙ out _ (sym c.in_err-values.ensures)))

pub is_new-requires : goal.is_new-requires
is_new-requires c = (opened-asks _ _ 0 _ _ (sym c.in_ok-opened.ensures)).1

pub returns : goal.returns
unfolding field_values salt_good
returns c =
    c.is_new.ensures ∙ sym (keep-groups _ _ _ _ _ ∙ past _ (sym c.in_ok-opened.ensures) ∙ past _ (sym c.in_ok-values.ensures))
