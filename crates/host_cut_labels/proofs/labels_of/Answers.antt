-- The length, then 23 and 24: a refusal of the first is the answer.
use Rattle.std.proofs.Common.{sym, ◌∙◌}
use Rattle.std.proofs.lemmas.Result.{err_from_is_err_and}
use Rattle.model.proofs.Verdicts.{out, past, long-fine}
use Rattle.cutting_parts.specs.Refusals.{label_good, part_good, label_values}
use Rattle.host_cut_promises.specs.Cut.{labels_find}
use Rattle.host_cut_labels.proofs.labels_of.Goals as goal

pub returns-in_err-long : goal.returns-in_err-long
unfolding labels_find
returns-in_err-long c =
    let p = err_from_is_err_and c.from_residual.result c.from_residual.ensures.1 in
    rw (p.1, p.2) (sym (out _ (sym c.in_err-long.ensures)))

pub labels_fit-requires : goal.labels_fit-requires
labels_fit-requires c = long-fine _ _ _ (sym c.in_ok-long.ensures)

pub returns : goal.returns
unfolding labels_find label_values label_good part_good
returns c = c.labels_fit.ensures ∙ sym (past _ (sym c.in_ok-long.ensures))
