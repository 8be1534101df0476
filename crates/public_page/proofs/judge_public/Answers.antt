-- The page's causes with the marks' table among the tables; what they refuse ends it, and the marks come last.
use Rattle.std.proofs.Common.{sym, ◌∙◌}
use Rattle.std.proofs.lemmas.Result.{err_from_is_err_and}
use Rattle.model.proofs.Verdicts.{out, past}
use Rattle.public_page.specs.Public.{public_page_verdict}
use Rattle.public_page.proofs.judge_public.Goals as goal

pub returns-in_err-judge : goal.returns-in_err-judge
unfolding public_page_verdict
returns-in_err-judge c =
    let p = err_from_is_err_and c.from_residual.result c.from_residual.ensures.1 in
    rw (p.1, p.2) (sym (out _ (sym (rw c.marks_long-marked.ensures at c.in_err-judge.ensures))))

pub returns : goal.returns
unfolding public_page_verdict
returns c = c.marks_good.ensures ∙ sym (past _ (sym (rw c.marks_long-marked.ensures at c.in_ok-judge.ensures)))
