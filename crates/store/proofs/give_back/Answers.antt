-- Lengths and volumes, then the name, then the kept masses: each part that is fine is passed, and the first that refuses is the answer.
use Rattle.std.proofs.Common.{ℕ, List, sym, ap, ◌∙◌, arith}
use Rattle.std.proofs.lemmas.Result.{err_from_is_err_and}
use Rattle.lists.specs.Table.{over}
use Rattle.model.proofs.Verdicts.{past, out}
use Rattle.store.specs.Calls.{return_masses}
use Rattle.store_kept.proofs.Judged.{kept-asks}
use Rattle.store.proofs.Judged.{return-groups, return-stays, opened-asks, part-front, part_length, salted}
use Rattle.store.proofs.give_back.Goals as goal

pub returns-in_err-opened : goal.returns-in_err-opened
returns-in_err-opened c =
    let p = err_from_is_err_and c.from_residual.result c.from_residual.ensures.1 in
    let v = return-groups _ _ _ _ _ ∙ out _ (sym c.in_err-opened.ensures) in
    rw (p.1, p.2) (record { answer = sym v; masses_are = return-stays _ _ _ _ _ v })

pub is_kept-requires : goal.is_kept-requires
is_kept-requires c = (opened-asks _ _ 0 _ _ (sym c.in_ok-opened.ensures)).1

pub returns-in_err-is_kept : goal.returns-in_err-is_kept
returns-in_err-is_kept c =
    let p = err_from_is_err_and c.from_residual-in_err-is_kept.result c.from_residual-in_err-is_kept.ensures.1 in
    let v = return-groups _ _ _ _ _ ∙ past _ (sym c.in_ok-opened.ensures) ∙ out _ (sym c.in_err-is_kept.ensures) in
    rw (p.1, p.2) (record { answer = sym v; masses_are = return-stays _ _ _ _ _ v })

pub masses_of-at-requires : goal.masses_of-at-requires
masses_of-at-requires c =
    let o = opened-asks _ _ 0 _ _ (sym c.in_ok-opened.ensures) in
    let k = kept-asks _ _ _ (sym c.in_ok-is_kept.ensures) in
    (o.1.1, k.0, k.1)

pub values-requires : goal.values-requires
values-requires c =
    let o = opened-asks _ _ 0 _ _ (sym c.in_ok-opened.ensures) in
    let n = part_length c.masses_of-at.result c.args.cells c.args.store.now c.masses_of-at.ensures.0 in
    record { cells_in_bounds = (o.0.0.0, omega (arith, n)); by_index = o.0.1 }

pub returns-in_err-values : goal.returns-in_err-values
returns-in_err-values c =
    let p = err_from_is_err_and c.from_residual-in_err-values.result c.from_residual-in_err-values.ensures.1 in
    let held = part-front c.masses_of-at.result c.args.cells c.args.store.now ∙ c.masses_of-at.ensures.1 in
    let salt = sym (c.in_err-values.ensures ∙ salted c.args.cells c.args.volumes.now held) in
    let v = return-groups _ _ _ _ _ ∙ past _ (sym c.in_ok-opened.ensures) ∙ past _ (sym c.in_ok-is_kept.ensures) ∙ salt in
    rw (p.1, p.2) (record { answer = sym v; masses_are = return-stays _ _ _ _ _ v })

pub copy-requires : goal.copy-requires
copy-requires c =
    let o = opened-asks _ _ 0 _ _ (sym c.in_ok-opened.ensures) in
    let n = part_length c.masses_of-at.result c.args.cells c.args.store.now c.masses_of-at.ensures.0 in
    omega (arith, n, o.0.0.1)

pub returns : goal.returns
unfolding return_masses
returns c =
    let held = part-front c.masses_of-at.result c.args.cells c.args.store.now ∙ c.masses_of-at.ensures.1 in
    let salt = sym (c.in_ok-values.ensures ∙ salted c.args.cells c.args.volumes.now held) in
    let v = return-groups _ _ _ _ _ ∙ past _ (sym c.in_ok-opened.ensures) ∙ past _ (sym c.in_ok-is_kept.ensures) ∙ salt in
    record { answer = sym v; masses_are = c.copy.ensures ∙ ap (λ (m : List ℕ). over m c.args.masses.now) held ∙ rw v }
