-- As `check_step`; the table of next masses is long enough for the sums once it is tested.
use Rattle.std.proofs.Common.{sym, ◌∙◌}
use Rattle.std.proofs.lemmas.Result.{err_from_is_err_and}
use Rattle.model.specs.Mesh.{mesh_of}
use Rattle.model.specs.Causes.{call_of}
use Rattle.model.proofs.Verdicts.{both-fine, past, out}
use Rattle.model.proofs.Accepted.{call-lent}
use Rattle.checks.proofs.Laws.{lengths-first, step-lent}
use Rattle.checks.proofs.check_step_in.Goals as goal

pub returns-in_err-tables_lent : goal.returns-in_err-tables_lent
returns-in_err-tables_lent c =
    let M = mesh_of c.args.cells c.args.faces c.args.volumes.now c.args.firsts.now c.args.seconds.now c.args.shares.now c.args.reaches.now in
    let k = call_of c.args.fluxes.now c.args.outsides.now c.args.next.now c.args.moved.now c.args.work.now c.args.releases.now in
    let p = err_from_is_err_and c.from_residual.result c.from_residual.ensures.1 in
    rw (p.1, p.2) (sym (lengths-first M c.args.masses.now k ∙ out _ (sym c.in_err-tables_lent.ensures)))

pub values_in-requires-clause-step_lent : goal.values_in-requires-clause-step_lent
values_in-requires-clause-step_lent c =
    let M = mesh_of c.args.cells c.args.faces c.args.volumes.now c.args.firsts.now c.args.seconds.now c.args.shares.now c.args.reaches.now in
    let k = call_of c.args.fluxes.now c.args.outsides.now c.args.next.now c.args.moved.now c.args.work.now c.args.releases.now in
    let p = both-fine _ _ (sym c.in_ok-tables_lent.ensures) in
    step-lent M c.args.masses.now k p.0 p.1

pub values_in-requires-clause-cells_in_bounds : goal.values_in-requires-clause-cells_in_bounds
values_in-requires-clause-cells_in_bounds c =
    let M = mesh_of c.args.cells c.args.faces c.args.volumes.now c.args.firsts.now c.args.seconds.now c.args.shares.now c.args.reaches.now in
    let k = call_of c.args.fluxes.now c.args.outsides.now c.args.next.now c.args.moved.now c.args.work.now c.args.releases.now in
    (call-lent M c.args.masses.now k (both-fine _ _ (sym c.in_ok-tables_lent.ensures)).1).nexts_long

pub returns : goal.returns
returns c =
    let M = mesh_of c.args.cells c.args.faces c.args.volumes.now c.args.firsts.now c.args.seconds.now c.args.shares.now c.args.reaches.now in
    let k = call_of c.args.fluxes.now c.args.outsides.now c.args.next.now c.args.moved.now c.args.work.now c.args.releases.now in
    c.values_in.ensures ∙ sym (lengths-first M c.args.masses.now k ∙ past _ (sym c.in_ok-tables_lent.ensures))
