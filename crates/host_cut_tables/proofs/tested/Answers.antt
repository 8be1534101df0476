-- The causes of cutting, then what the writers of each part find.
use Rattle.std.proofs.Common.{sym, ◌∙◌}
use Rattle.std.proofs.lemmas.Result.{err_from_is_err_and}
use Rattle.model.proofs.Verdicts.{out, past}
use Rattle.host_cut_tables.proofs.Found.{found-own, cuttable-own}
use Rattle.host_cut_tables.proofs.tested.Goals as goal

pub returns-in_err-verdict : goal.returns-in_err-verdict
returns-in_err-verdict c =
    let p = err_from_is_err_and c.from_residual.result c.from_residual.ensures.1 in
    rw (p.1, p.2) (sym (out _ (sym (found-own _ c.args.labels.now c.in_err-verdict.ensures))))

pub part_found-requires : goal.part_found-requires
part_found-requires c = cuttable-own _ c.args.labels.now (sym (found-own _ c.args.labels.now c.in_ok-verdict.ensures))

pub returns-in_err-part_found : goal.returns-in_err-part_found
returns-in_err-part_found c =
    let p = err_from_is_err_and c.from_residual-in_err-part_found.result c.from_residual-in_err-part_found.ensures.1 in
    rw (p.1, p.2) (sym (past _ (sym (found-own _ c.args.labels.now c.in_ok-verdict.ensures)) ∙ out _ (sym c.in_err-part_found.ensures)))

pub part_found-requires-2 : goal.part_found-requires-2
part_found-requires-2 c = cuttable-own _ c.args.labels.now (sym (found-own _ c.args.labels.now c.in_ok-verdict.ensures))

pub returns : goal.returns
returns c =
    c.part_found-2.ensures
    ∙ sym (past _ (sym (found-own _ c.args.labels.now c.in_ok-verdict.ensures)) ∙ past _ (sym c.in_ok-part_found.ensures))
