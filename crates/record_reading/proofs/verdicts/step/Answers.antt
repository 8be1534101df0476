-- A head that passed says a kind of a step, and that the counts are within the limits; the body's tests ask no more.
use Rattle.std.proofs.Common.{sym, [], ◌∷◌, arith}
use Rattle.std.proofs.lemmas.Result.{err_from_is_err_and}
use Rattle.model.proofs.Verdicts.{out, past, fine-all, refused-at}
use Rattle.record_heads.proofs.HeadLaws.{step-head-says}
use Rattle.record_reading.specs.Reading.{step_read}
use Rattle.record_reading.proofs.verdicts.step.Goals as goal

pub returns-in_err-step : goal.returns-in_err-step
unfolding step_read
returns-in_err-step c =
    let p = err_from_is_err_and c.from_residual.result c.from_residual.ensures.1 in
    rw (p.1, p.2) (sym (out _ (out _ (sym c.in_err-step.ensures))))

pub step_kind-kind-requires : goal.step_kind-kind-requires
step_kind-kind-requires c = let h = step-head-says _ _ _ _ _ (sym c.in_ok-step.ensures) in (omega (arith, h.long), h.kind)

pub step_body-requires : goal.step_body-requires
step_body-requires c =
    let h = step-head-says _ _ _ _ _ (sym c.in_ok-step.ensures) in
    (c.step_kind-kind.ensures, h.few_cells, h.few_faces, h.lent)

pub returns-in_err-step_body : goal.returns-in_err-step_body
unfolding step_read
returns-in_err-step_body c =
    let p = err_from_is_err_and c.from_residual-in_err-step_body.result c.from_residual-in_err-step_body.ensures.1 in
    rw (p.1, p.2) (sym (out _ (refused-at (_ ∷ []) [] (sym c.in_ok-step.ensures, tt) (sym c.in_err-step_body.ensures))))

pub returns : goal.returns
unfolding step_read
returns c =
    rw c.step_kind-kind.ensures
    (sym (past _ (fine-all (_ ∷ _ ∷ []) (sym c.in_ok-step.ensures, (sym c.in_ok-step_body.ensures, tt)))))
