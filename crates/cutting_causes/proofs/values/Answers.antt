-- The mesh, the labels, then salt and water; what is found of the mesh twice counts once.
use Rattle.std.proofs.Common.{sym, ◌∙◌}
use Rattle.std.proofs.lemmas.Result.{err_from_is_err_and}
use Rattle.model.specs.Causes.{values_verdict}
use Rattle.model.proofs.Verdicts.{out, past}
use Rattle.cutting_parts.specs.Refusals.{label_good, part_good, label_values}
use Rattle.cutting_causes.specs.Lengths.{values_found}
use Rattle.cutting_causes.proofs.Groups.{mesh-once}
use Rattle.cutting_causes.proofs.values.Goals as goal

pub values-mesh-requires : goal.values-mesh-requires
values-mesh-requires c = c.requires.0.lent

pub returns-in_err-and_then : goal.returns-in_err-and_then
unfolding values_found values_verdict label_values label_good part_good
returns-in_err-and_then c =
    let p = err_from_is_err_and c.from_residual.result c.from_residual.ensures.1 in
    rw (p.1, p.2) (sym (sym (mesh-once _ _ _ _ _) ∙ out _ (sym (rw (c.values-mesh.ensures, c.labels_fit.ensures) at c.in_err-and_then.ensures))))

pub returns : goal.returns
unfolding values_found values_verdict label_values label_good part_good
returns c =
    c.step_values.ensures ∙ sym (past _ (sym (rw (c.values-mesh.ensures, c.labels_fit.ensures) at c.in_ok-and_then.ensures))) ∙ mesh-once _ _ _ _ _
