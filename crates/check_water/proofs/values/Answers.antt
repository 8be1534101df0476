-- Faces that the one reading finds fine are fine by both; else 7 refuses, or what 8 says stands.
use Rattle.std.proofs.Common.{sym, ◌∙◌}
use Rattle.std.proofs.lemmas.Result.{err_from_is_err_and}
use Rattle.model.proofs.Verdicts.{past, out}
use Rattle.check_water.proofs.values.Goals as goal

pub returns-then-faces_fit : goal.returns-then-faces_fit
returns-then-faces_fit c = let fit = c.faces_fit.ensures c.if-faces_fit.true in sym (past _ fit.0 ∙ fit.1)

pub returns-in_err-outsides_good : goal.returns-in_err-outsides_good
returns-in_err-outsides_good c = let p = err_from_is_err_and c.from_residual.result c.from_residual.ensures.1 in
    rw (p.1, p.2) (sym (out _ (sym c.in_err-outsides_good.ensures)))

pub returns : goal.returns
returns c = c.fluxes_good.ensures ∙ sym (past _ (sym c.in_ok-outsides_good.ensures))
