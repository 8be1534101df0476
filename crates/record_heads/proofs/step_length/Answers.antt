-- A head that passed says a kind of a step and counts within the limits, so the length can be summed up.
use Rattle.std.proofs.Common.{sym, arith}
use Rattle.std.proofs.lemmas.Result.{err_from_is_err_and}
use Rattle.model.proofs.Verdicts.{past, out}
use Rattle.record_heads.specs.Heads.{step_needs}
use Rattle.record_heads.proofs.HeadLaws.{step-head-says}
use Rattle.record_heads.proofs.step_length.Goals as goal

pub returns-in_err-step : goal.returns-in_err-step
unfolding step_needs
returns-in_err-step c =
    let p = err_from_is_err_and c.from_residual.result c.from_residual.ensures.1 in
    rw (p.1, p.2) (sym (out _ (sym c.in_err-step.ensures)))

pub step_kind-requires : goal.step_kind-requires
step_kind-requires c = let h = step-head-says _ _ _ _ _ (sym c.in_ok-step.ensures) in (omega (arith, h.long), h.kind)

pub step_bytes-length-requires : goal.step_bytes-length-requires
step_bytes-length-requires c = let h = step-head-says _ _ _ _ _ (sym c.in_ok-step.ensures) in (h.few_cells, h.few_faces, h.lent)

pub returns : goal.returns
unfolding step_needs
returns c = rw (c.step_bytes-length.ensures, c.step_kind.ensures) (sym (past _ (sym c.in_ok-step.ensures)))
