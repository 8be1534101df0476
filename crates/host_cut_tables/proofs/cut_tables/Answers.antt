-- What is found first; past it each part is written, and nothing is left for its writers to refuse.
use Rattle.std.proofs.Common.{sym}
use Rattle.std.proofs.lemmas.Result.{err_from_is_err_and}
use Rattle.model.proofs.Verdicts.{both-fine}
use Rattle.host_cut_promises.proofs.Cut.{cut-refused, cut-done}
use Rattle.host_cut_tables.proofs.Found.{cuttable-own}
use Rattle.host_cut_tables.proofs.cut_tables.Goals as goal

pub returns-in_err-tested : goal.returns-in_err-tested
returns-in_err-tested c =
    let p = err_from_is_err_and c.from_residual.result c.from_residual.ensures.1 in
    rw (p.1, p.2) (cut-refused _ _ _ _ _ _ _ (sym c.in_err-tested.ensures))

pub part_written-x-requires : goal.part_written-x-requires
part_written-x-requires c = cuttable-own _ c.args.labels.now (both-fine _ _ (sym c.in_ok-tested.ensures)).0

pub part_written-y-requires : goal.part_written-y-requires
part_written-y-requires c = cuttable-own _ c.args.labels.now (both-fine _ _ (sym c.in_ok-tested.ensures)).0

pub returns : goal.returns
returns c = cut-done (sym c.in_ok-tested.ensures) c.part_written-x.ensures c.part_written-y.ensures
