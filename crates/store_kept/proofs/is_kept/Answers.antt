-- The count first, for without it no field is read; then the name.
use Rattle.std.proofs.Common.{Bool, ◌&&◌, sym, ap, ◌∙◌}
use Rattle.std.proofs.lemmas.Result.{err_from_is_err_and}
use Rattle.model.specs.Causes.{need}
use Rattle.model.proofs.Verdicts.{past, out}
use Rattle.store_kept.specs.Tests.{name_fits, count_good, name_kept}
use Rattle.store_kept.proofs.Judged.{count-counted, kept_test}
use Rattle.store_kept.proofs.is_kept.Goals as goal

pub returns-in_err-need : goal.returns-in_err-need
unfolding count_good
returns-in_err-need c =
    let p = err_from_is_err_and c.from_residual.result c.from_residual.ensures.1 in
    rw (p.1, p.2) (sym (out _ (sym (rw c.count_fits.ensures at c.in_err-need.ensures))))

pub before-requires : goal.before-requires
unfolding count_good
before-requires c = (c.requires.1, count-counted c.args.cells c.args.store.now (sym (rw c.count_fits.ensures at c.in_ok-need.ensures)))

pub returns : goal.returns
unfolding count_good name_kept
returns c =
    let count-fine = sym (rw c.count_fits.ensures at c.in_ok-need.ensures) in
    let test = kept_test c.args.cells c.args.store.now c.args.name (count-counted c.args.cells c.args.store.now count-fine) c.before-2.result c.before-2.ensures in
    c.need-2.ensures ∙ ap (need 17 c.args.name) (c.name_fits.ensures ∙ ap (λ (b : Bool). name_fits c.args.name && b) test)
    ∙ sym (past _ count-fine)
