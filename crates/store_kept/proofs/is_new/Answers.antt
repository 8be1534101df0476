-- The count first, for without it no field is read; then the name and the room.
use Rattle.std.proofs.Common.{Bool, ◌&&◌, sym, ap, ◌∙◌, [], ◌∷◌, arith}
use Rattle.std.proofs.lemmas.Result.{err_from_is_err_and}
use Rattle.model.specs.Causes.{need}
use Rattle.model.proofs.Verdicts.{refused-at, fine-all, past}
use Rattle.store_kept.specs.Tests.{name_fits, count_good, name_new, room_left}
use Rattle.store_kept.proofs.Judged.{count-counted, new-test, room-test}
use Rattle.store_kept.proofs.is_new.Goals as goal

pub returns-in_err-need : goal.returns-in_err-need
unfolding count_good
returns-in_err-need c =
    let p = err_from_is_err_and c.from_residual.result c.from_residual.ensures.1 in
    rw (p.1, p.2) (sym (refused-at [] (_ ∷ _ ∷ []) tt (sym (rw c.count_fits.ensures at c.in_err-need.ensures))))

pub used-requires : goal.used-requires
unfolding count_good
used-requires c = (c.requires.1, omega (arith, count-counted c.args.cells c.args.store.now (sym (rw c.count_fits.ensures at c.in_ok-need.ensures))))

pub overflow_sub-left : goal.overflow_sub-left
unfolding count_good
overflow_sub-left c = omega (arith, c.used.ensures, count-counted c.args.cells c.args.store.now (sym (rw c.count_fits.ensures at c.in_ok-need.ensures)))

pub before-requires : goal.before-requires
unfolding count_good
before-requires c = (c.requires.1, count-counted c.args.cells c.args.store.now (sym (rw c.count_fits.ensures at c.in_ok-need.ensures)))

pub returns-in_err-need-2 : goal.returns-in_err-need-2
unfolding count_good name_new
returns-in_err-need-2 c =
    let p = err_from_is_err_and c.from_residual-in_err-need-2.result c.from_residual-in_err-need-2.ensures.1 in
    let count-fine = sym (rw c.count_fits.ensures at c.in_ok-need.ensures) in
    let l = count-counted c.args.cells c.args.store.now count-fine in
    let test = new-test c.args.cells c.args.store.now c.args.name l c.before-2.result c.before-2.ensures in
    let e = c.name_fits.ensures ∙ ap (λ (b : Bool). name_fits c.args.name && b) test in
    rw (p.1, p.2) (sym (refused-at (_ ∷ []) (_ ∷ []) (count-fine, tt) (sym (rw e at c.in_err-need-2.ensures))))

pub returns : goal.returns
unfolding count_good name_new room_left
returns c =
    let count-fine = sym (rw c.count_fits.ensures at c.in_ok-need.ensures) in
    let l = count-counted c.args.cells c.args.store.now count-fine in
    let test = new-test c.args.cells c.args.store.now c.args.name l c.before-2.result c.before-2.ensures in
    let e = c.name_fits.ensures ∙ ap (λ (b : Bool). name_fits c.args.name && b) test in
    let room = room-test c.args.cells c.args.store.now c.args.name l c.used.result c.used.ensures in
    c.need-3.ensures ∙ ap (need 16 c.args.name) room
    ∙ sym (past _ (fine-all (_ ∷ _ ∷ []) (count-fine, (sym (rw e at c.in_ok-need-2.ensures), tt))))
