-- What is lent, then the bytes and a further table, then all of the field, whose tests of what is lent are passed by then, then the page.
use Rattle.std.proofs.Common.{ℕ, sym, ap, ◌∙◌, [], ◌∷◌}
use Rattle.std.proofs.lemmas.Result.{err_from_is_err_and}
use lib.Dec.{ltb}
use Rattle.model.specs.Causes.{need}
use Rattle.model.specs.Answers.{said}
use Rattle.model.proofs.Verdicts.{both-fine, refused-at, fine-all, past}
use Rattle.model.proofs.Accepted.{few, mesh-long}
use Rattle.page.proofs.Laws.{judged-out, judged-on}
use Rattle.page.proofs.judge.Goals as goal

pub returns-in_err-field_lent : goal.returns-in_err-field_lent
returns-in_err-field_lent c =
    let p = err_from_is_err_and c.from_residual.result c.from_residual.ensures.1 in
    rw (p.1, p.2) (sym (judged-out _ _ _ _ c.args.page c.args.room (sym c.in_err-field_lent.ensures)))

pub rest_places-places-requires : goal.rest_places-places-requires
rest_places-places-requires c = (mesh-long _ (both-fine _ _ (sym c.in_ok-field_lent.ensures)).0).volumes_long

pub page_bytes-requires : goal.page_bytes-requires
page_bytes-requires c = (c.rest_places-places.ensures.1, (few _ _ (sym c.in_ok-field_lent.ensures)).0)

pub returns-in_err-long : goal.returns-in_err-long
returns-in_err-long c =
    let p = err_from_is_err_and c.from_residual-in_err-long.result c.from_residual-in_err-long.ensures.1 in
    rw (p.1, p.2) (sym (judged-on _ _ _ _ c.args.page c.args.room (sym c.in_ok-field_lent.ensures) ∙ refused-at [] (_ ∷ _ ∷ _ ∷ []) tt (sym (rw (c.page_bytes.ensures, c.rest_places-places.ensures.0) at c.in_err-long.ensures))))

pub returns-in_err-further : goal.returns-in_err-further
returns-in_err-further c =
    let p = err_from_is_err_and c.from_residual-in_err-further.result c.from_residual-in_err-further.ensures.1 in
    rw (p.1, p.2) (sym (judged-on _ _ _ _ c.args.page c.args.room (sym c.in_ok-field_lent.ensures) ∙ refused-at (_ ∷ []) (_ ∷ _ ∷ []) ((sym (rw (c.page_bytes.ensures, c.rest_places-places.ensures.0) at c.in_ok-long.ensures)), tt) (ap said c.in_err-further.was)))

pub returns-in_err-check_cells : goal.returns-in_err-check_cells
returns-in_err-check_cells c =
    let p = err_from_is_err_and c.from_residual-in_err-check_cells.result c.from_residual-in_err-check_cells.ensures.1 in
    rw (p.1, p.2) (sym (judged-on _ _ _ _ c.args.page c.args.room (sym c.in_ok-field_lent.ensures) ∙ refused-at (_ ∷ _ ∷ []) (_ ∷ []) ((sym (rw (c.page_bytes.ensures, c.rest_places-places.ensures.0) at c.in_ok-long.ensures)), ((ap said c.in_ok-further.was), tt)) (sym c.in_err-check_cells.ensures)))

pub pages-requires : goal.pages-requires
pages-requires c = (few _ _ (sym c.in_ok-field_lent.ensures)).0

pub returns : goal.returns
returns c =
    let there = c.need.ensures ∙ ap (λ (n : ℕ). need 14 c.args.page (ltb c.args.page n)) c.pages.ensures in
    there ∙ sym (judged-on _ _ _ _ c.args.page c.args.room (sym c.in_ok-field_lent.ensures) ∙ past _ (fine-all (_ ∷ _ ∷ _ ∷ []) ((sym (rw (c.page_bytes.ensures, c.rest_places-places.ensures.0) at c.in_ok-long.ensures)), ((ap said c.in_ok-further.was), ((sym c.in_ok-check_cells.ensures), tt)))))
