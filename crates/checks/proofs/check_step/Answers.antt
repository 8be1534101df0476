-- The lengths, then the values: each part that is fine is passed, and the first that refuses is the answer.
use Rattle.std.proofs.Common.{sym, ◌∙◌}
use Rattle.std.proofs.lemmas.Result.{err_from_is_err_and}
use Rattle.model.specs.Causes.{call_of}
use Rattle.model.proofs.Verdicts.{both-fine, past, out}
use Rattle.checks.proofs.Laws.{lengths-first, step-lent}
use Rattle.checks.proofs.check_step.Goals as goal

pub returns-in_err-tables_lent : goal.returns-in_err-tables_lent
returns-in_err-tables_lent c = let p = err_from_is_err_and c.from_residual.result c.from_residual.ensures.1 in
    rw (p.1, p.2) (sym (lengths-first _ _ _ ∙ out _ (sym c.in_err-tables_lent.ensures)))

pub values_own-requires : goal.values_own-requires
values_own-requires c =
    let p = both-fine _ _ (sym c.in_ok-tables_lent.ensures) in
    step-lent _ _ (call_of c.args.fluxes.now c.args.outsides.now c.args.next.now c.args.moved.now c.args.work.now c.args.releases.now) p.0 p.1

pub returns : goal.returns
returns c = c.values_own.ensures ∙ sym (lengths-first _ _ _ ∙ past _ (sym c.in_ok-tables_lent.ensures))
