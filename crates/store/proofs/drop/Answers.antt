-- Counts and lengths, then the name: each part that is fine is passed, and the first that refuses is the answer and leaves the store.
use Rattle.std.proofs.Common.{sym, ◌∙◌}
use Rattle.std.proofs.lemmas.Result.{err_from_is_err_and}
use Rattle.model.proofs.Verdicts.{past, out}
use Rattle.model.specs.Causes.{counts}
use Rattle.store.specs.Calls.{store_table, drop_store}
use Rattle.store_kept.proofs.Judged.{kept-asks}
use Rattle.store.proofs.Judged.{drop-groups, drop-opened, drop-stays}
use Rattle.store.proofs.drop.Goals as goal

pub returns-in_err-counts_within : goal.returns-in_err-counts_within
unfolding counts store_table
returns-in_err-counts_within c =
    let p = err_from_is_err_and c.from_residual.result c.from_residual.ensures.1 in
    let v = drop-groups _ _ _ ∙ out _ (out _ (sym c.in_err-counts_within.ensures)) in
    rw (p.1, p.2) (record { answer = sym v; store_is = drop-stays _ _ _ v })

pub returns-in_err-long : goal.returns-in_err-long
unfolding counts store_table
returns-in_err-long c =
    let p = err_from_is_err_and c.from_residual-in_err-long.result c.from_residual-in_err-long.ensures.1 in
    let v = drop-groups _ _ _ ∙ out _ (past _ (sym c.in_ok-counts_within.ensures) ∙ sym c.in_err-long.ensures) in
    rw (p.1, p.2) (record { answer = sym v; store_is = drop-stays _ _ _ v })

pub is_kept-requires : goal.is_kept-requires
unfolding counts store_table
is_kept-requires c = drop-opened c.args.cells c.args.store.now 0 (past _ (sym c.in_ok-counts_within.ensures) ∙ sym c.in_ok-long.ensures)

pub returns-in_err-is_kept : goal.returns-in_err-is_kept
unfolding counts store_table
returns-in_err-is_kept c =
    let p = err_from_is_err_and c.from_residual-in_err-is_kept.result c.from_residual-in_err-is_kept.ensures.1 in
    let v = drop-groups _ _ _ ∙ past _ (past _ (sym c.in_ok-counts_within.ensures) ∙ sym c.in_ok-long.ensures) ∙ sym c.in_err-is_kept.ensures in
    rw (p.1, p.2) (record { answer = sym v; store_is = drop-stays _ _ _ v })

pub take_field-requires : goal.take_field-requires
unfolding counts store_table
take_field-requires c =
    let k = kept-asks _ _ _ (sym c.in_ok-is_kept.ensures) in
    ((drop-opened c.args.cells c.args.store.now 0 (past _ (sym c.in_ok-counts_within.ensures) ∙ sym c.in_ok-long.ensures)).1, k.0, k.1)

pub returns : goal.returns
unfolding counts store_table drop_store
returns c =
    let v = drop-groups _ _ _ ∙ past _ (past _ (sym c.in_ok-counts_within.ensures) ∙ sym c.in_ok-long.ensures) ∙ sym c.in_ok-is_kept.ensures in
    record { answer = sym v; store_is = c.take_field.ensures ∙ rw v }
