-- A refusal leaves the store; an accepted field is put after all others.
use Rattle.std.proofs.Common.{sym, ◌∙◌}
use Rattle.std.proofs.lemmas.Result.{err_from_is_err_and}
use Rattle.store.specs.Calls.{keep_store}
use Rattle.store.proofs.Judged.{keep-stays, opened-asks}
use Rattle.store.proofs.Effects.{opened-fine, keep-long, keep-room}
use Rattle.store.proofs.keep.Goals as goal

pub returns-in_err-may_keep : goal.returns-in_err-may_keep
returns-in_err-may_keep c =
    let p = err_from_is_err_and c.from_residual.result c.from_residual.ensures.1 in
    let v = sym c.in_err-may_keep.ensures in
    rw (p.1, p.2) (record { answer = sym v; store_is = keep-stays _ _ _ _ _ v })

pub put_field-requires : goal.put_field-requires
put_field-requires c =
    let v = sym c.in_ok-may_keep.ensures in
    ((opened-asks _ _ 0 _ _ (opened-fine _ _ _ _ _ v)).1.1, keep-long _ _ _ _ _ v, keep-room _ _ _ _ _ v)

pub returns : goal.returns
unfolding keep_store
returns c =
    let v = sym c.in_ok-may_keep.ensures in
    record { answer = sym v; store_is = c.put_field.ensures ∙ rw v }
