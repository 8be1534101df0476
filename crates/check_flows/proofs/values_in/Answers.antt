-- The gathered tables are inflow and outflow; 9 is read off them before 10.
use Rattle.std.proofs.Common.{sym, ◌∙◌}
use Rattle.std.proofs.lemmas.Result.{err_from_is_err_and}
use Rattle.model.proofs.Verdicts.{past, out}
use Rattle.check_flows.proofs.Gathering.{long-enough, balance-read, outflow-read}
use Rattle.check_flows.proofs.values_in.Goals as goal

pub balanced-requires : goal.balanced-requires
balanced-requires c =
    long-enough c.args.cells c.args.faces c.args.volumes.now c.args.firsts.now c.args.seconds.now c.args.fluxes.now c.requires.long_enough.0
    _ _ c.gather.ensures.0 c.gather.ensures.1

pub returns-in_err-balanced : goal.returns-in_err-balanced
returns-in_err-balanced c =
    let p = err_from_is_err_and c.from_residual.result c.from_residual.ensures.1 in
    let read = balance-read c.args.cells c.args.faces c.args.volumes.now c.args.firsts.now c.args.seconds.now c.args.fluxes.now
    c.requires.long_enough.0 _ _ c.gather.ensures.0 c.gather.ensures.1 in
    rw (p.1, p.2) (sym (out _ (sym (c.in_err-balanced.ensures ∙ read))))

pub outflow_fits-requires : goal.outflow_fits-requires
outflow_fits-requires c = (
  c.requires.long_enough.2,
  (long-enough c.args.cells c.args.faces c.args.volumes.now c.args.firsts.now c.args.seconds.now c.args.fluxes.now c.requires.long_enough.0
      _ _ c.gather.ensures.0 c.gather.ensures.1).1,
)

pub returns : goal.returns
returns c =
    let read = balance-read c.args.cells c.args.faces c.args.volumes.now c.args.firsts.now c.args.seconds.now c.args.fluxes.now
    c.requires.long_enough.0 _ _ c.gather.ensures.0 c.gather.ensures.1 in
    c.outflow_fits.ensures
    ∙ outflow-read c.args.cells c.args.faces c.args.volumes.now c.args.firsts.now c.args.seconds.now c.args.fluxes.now
    c.requires.long_enough.0 _ _ c.gather.ensures.0 c.gather.ensures.1
    ∙ sym (past _ (sym (c.in_ok-balanced.ensures ∙ read)))
