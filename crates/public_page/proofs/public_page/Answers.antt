-- Refused, nothing is written; else what is judged is what putting the lines asks for, and the lines are those of the open cells.
use Rattle.std.proofs.Common.{sym, arith}
use Rattle.std.proofs.lemmas.Result.{err_from_is_err_and}
use Rattle.public_page.proofs.Laws.{begins, few, volumes_long, lines-ask, public-refused, public-accepted}
use Rattle.public_page.proofs.public_page.Goals as goal

pub returns-in_err-judge_public : goal.returns-in_err-judge_public
returns-in_err-judge_public c =
    let p = err_from_is_err_and c.from_residual.result c.from_residual.ensures.1 in
    rw (p.1, p.2) (public-refused _ _ _ _ _ _ (sym c.in_err-judge_public.ensures))

pub overflow_mul-first : goal.overflow_mul-first
overflow_mul-first c = omega (arith, begins _ _ _ _ _ _ (sym c.in_ok-judge_public.ensures), few _ _ _ _ _ _ (sym c.in_ok-judge_public.ensures))

pub cells_on-count-requires : goal.cells_on-count-requires
cells_on-count-requires c = omega (arith, begins _ _ _ _ _ _ (sym c.in_ok-judge_public.ensures))

pub rest_places-places-requires : goal.rest_places-places-requires
rest_places-places-requires c = volumes_long _ _ _ _ _ _ (sym c.in_ok-judge_public.ensures)

pub lines-length-requires : goal.lines-length-requires
lines-length-requires c =
    let a = lines-ask _ _ _ _ _ _ (sym c.in_ok-judge_public.ensures) c.cells_on-count.ensures in
    record { places_le_most_digits = rw c.rest_places-places.ensures.0 a.0; by_index = a.1 }

pub returns : goal.returns
returns c =
    public-accepted _ _ _ _ _ _ (sym c.in_ok-judge_public.ensures) c.cells_on-count.ensures (rw c.rest_places-places.ensures.0 at c.lines-length.ensures)
