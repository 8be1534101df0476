-- The cells, then the faces.
use Rattle.std.proofs.Common.{sym, ◌∙◌}
use Rattle.std.proofs.lemmas.Result.{err_from_is_err_and}
use Rattle.model.specs.Causes.{counts_within}
use Rattle.model.proofs.Verdicts.{past, out}
use Rattle.check_lent.proofs.counts_within.Goals as goal

pub returns-in_err-need : goal.returns-in_err-need
unfolding counts_within
returns-in_err-need c =
    let said = rw c.between.ensures at c.in_err-need.ensures in
    let p = err_from_is_err_and c.from_residual.result c.from_residual.ensures.1 in
    rw (p.1, p.2) (sym (out _ (sym said)))

pub returns : goal.returns
unfolding counts_within
returns c = let said = rw c.between.ensures at c.in_ok-need.ensures in c.need-2.ensures ∙ sym (past _ (sym said))
