-- The writers' verdicts, one after another.
use Rattle.std.proofs.Common.{sym, ◌∙◌}
use Rattle.std.proofs.lemmas.Result.{err_from_is_err_and}
use Rattle.model.proofs.Verdicts.{out, past}
use Rattle.host_cut_parts.proofs.finds.Goals as goal

pub returns-in_err-mesh : goal.returns-in_err-mesh
returns-in_err-mesh c =
    let p = err_from_is_err_and c.from_residual.result c.from_residual.ensures.1 in
    rw (p.1, p.2) (sym (out _ (out _ (sym c.in_err-mesh.ensures))))

pub returns-in_err-field : goal.returns-in_err-field
returns-in_err-field c =
    let p = err_from_is_err_and c.from_residual-in_err-field.result c.from_residual-in_err-field.ensures.1 in
    rw (p.1, p.2) (sym (out _ (past _ (sym c.in_ok-mesh.ensures) ∙ sym c.in_err-field.ensures)))

pub returns : goal.returns
returns c = c.step.ensures ∙ sym (past _ (past _ (sym c.in_ok-mesh.ensures) ∙ sym c.in_ok-field.ensures))
