-- Three ends: faces or a table refused (1, 2), a gain too large (26), both without a write; and all gains added, each of which was tested.
use Rattle.std.proofs.Common.{refl, sym}
use Rattle.std.proofs.lemmas.Result.{err_from_is_err_and}
use Rattle.charge_totals.proofs.Laws.{lent-long, not-lent, too_much, added}
use Rattle.charge_totals.proofs.add.Goals as goal

pub returns-in_err-lent : goal.returns-in_err-lent
returns-in_err-lent c = let p = err_from_is_err_and c.from_residual.result c.from_residual.ensures.1 in
    rw (p.1, p.2) (not-lent _ _ _ _ _ c.in_err-lent.ensures _ refl)

pub gains_good-requires : goal.gains_good-requires
gains_good-requires c = lent-long c.in_ok-lent.ensures refl

pub returns-in_err-gains_good : goal.returns-in_err-gains_good
returns-in_err-gains_good c = let p = err_from_is_err_and c.from_residual-in_err-gains_good.result c.from_residual-in_err-gains_good.ensures.1 in
    rw (p.1, p.2) (too_much _ _ _ _ _ c.in_ok-lent.ensures refl _ (sym c.in_err-gains_good.ensures))

pub raise-requires-clause-faces_in_bounds : goal.raise-requires-clause-faces_in_bounds
raise-requires-clause-faces_in_bounds c = lent-long c.in_ok-lent.ensures refl

pub returns : goal.returns
returns c = added _ _ _ _ _ c.in_ok-lent.ensures refl (sym c.in_ok-gains_good.ensures) _ c.raise.ensures
