-- A mesh that the one reading finds fine is fine by both; else 4 refuses, or what 5 says stands.
use Rattle.std.proofs.Common.{sym, ◌∙◌}
use Rattle.std.proofs.lemmas.Result.{err_from_is_err_and}
use Rattle.model.proofs.Verdicts.{past, out}
use Rattle.check_mesh.proofs.faces_good.Goals as goal

pub returns-then-faces_fit : goal.returns-then-faces_fit
returns-then-faces_fit c = let fit = c.faces_fit.ensures c.if-faces_fit.true in sym (past _ fit.0 ∙ fit.1)

pub returns-in_err-ends_good : goal.returns-in_err-ends_good
returns-in_err-ends_good c = let p = err_from_is_err_and c.from_residual.result c.from_residual.ensures.1 in
    rw (p.1, p.2) (sym (out _ (sym c.in_err-ends_good.ensures)))

pub returns : goal.returns
returns c = c.spacing_good.ensures ∙ sym (past _ (sym c.in_ok-ends_good.ensures))
