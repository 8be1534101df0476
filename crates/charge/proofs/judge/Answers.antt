-- What is known before any band is read, the bands, and the total.
use Rattle.std.proofs.Common.{refl, sym, ◌∙◌}
use Rattle.std.proofs.lemmas.Result.{err_from_is_err_and}
use Rattle.model.proofs.Verdicts.{past, out}
use Rattle.charge.proofs.Laws.{lent-long, judged-out, judged-on}
use Rattle.charge.proofs.judge.Goals as goal

pub returns-in_err-lent : goal.returns-in_err-lent
returns-in_err-lent c = let p = err_from_is_err_and c.from_residual.result c.from_residual.ensures.1 in
    rw (p.1, p.2) (sym (judged-out _ _ _ _ _ c.in_err-lent.ensures refl))

pub bands_good-requires : goal.bands_good-requires
bands_good-requires c = lent-long c.args.remainder c.in_ok-lent.ensures refl

pub returns-in_err-bands_good : goal.returns-in_err-bands_good
returns-in_err-bands_good c = let p = err_from_is_err_and c.from_residual-in_err-bands_good.result c.from_residual-in_err-bands_good.ensures.1 in
    rw (p.1, p.2) (sym (judged-on _ _ _ _ _ c.in_ok-lent.ensures refl ∙ out _ (sym c.in_err-bands_good.ensures)))

pub returns : goal.returns
returns c = c.need.ensures ∙ sym (judged-on _ _ _ _ _ c.in_ok-lent.ensures refl ∙ past _ (sym c.in_ok-bands_good.ensures))
