-- Refused, nothing is written; else what is judged is what putting the lines asks for.
use Rattle.std.proofs.Common.{sym}
use Rattle.std.proofs.lemmas.Result.{err_from_is_err_and}
use Rattle.page.proofs.Laws.{page-passed, put-asks}
use Rattle.page.proofs.Printed.{page-refused, page-accepted}
use Rattle.page.proofs.page.Goals as goal

pub returns-in_err-judge : goal.returns-in_err-judge
returns-in_err-judge c =
    let p = err_from_is_err_and c.from_residual.result c.from_residual.ensures.1 in
    rw (p.1, p.2) (page-refused _ _ _ _ _ (sym c.in_err-judge.ensures))

pub rest_places-places-requires : goal.rest_places-places-requires
rest_places-places-requires c =
    let passed = page-passed _ _ _ _ _ _ (sym c.in_ok-judge.ensures) in
    let a = put-asks _ _ _ passed.field_fine _ passed.there in
    a.0.2

pub put-length-requires-clause-places_bound : goal.put-length-requires-clause-places_bound
put-length-requires-clause-places_bound c =
    let passed = page-passed _ _ _ _ _ _ (sym c.in_ok-judge.ensures) in
    let a = put-asks _ _ _ passed.field_fine _ passed.there in
    rw c.rest_places-places.ensures.0 a.0

pub put-length-requires-clause-by_index : goal.put-length-requires-clause-by_index
put-length-requires-clause-by_index c =
    let passed = page-passed _ _ _ _ _ _ (sym c.in_ok-judge.ensures) in
    let a = put-asks _ _ _ passed.field_fine _ passed.there in
    a.1.0

pub put-length-requires-clause-masses_bound : goal.put-length-requires-clause-masses_bound
put-length-requires-clause-masses_bound c =
    let passed = page-passed _ _ _ _ _ _ (sym c.in_ok-judge.ensures) in
    let a = put-asks _ _ _ passed.field_fine _ passed.there in
    a.1.1

pub returns : goal.returns
returns c =
    page-accepted _ _ _ _ _ (sym c.in_ok-judge.ensures) (rw c.rest_places-places.ensures.0 at c.put-length.ensures)
