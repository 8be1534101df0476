-- The causes first; past them each part is cut by one call.
use Rattle.std.proofs.lemmas.Result.{err_from_is_err_and}
use Rattle.model.specs.Causes.{counts}
use Rattle.cutting_parts.specs.Cut.{tables_of, lagoon_of}
use Rattle.cutting_parts.specs.Refusals.{cut_tables}
use Rattle.cutting.proofs.Promised.{cuttable, room_0, room-1, found-fine, promise-done, promise-refused}
use Rattle.cutting.proofs.cut.Goals as goal

pub returns-in_err-verdict : goal.returns-in_err-verdict
unfolding counts cut_tables
returns-in_err-verdict c =
    let p = err_from_is_err_and c.from_residual.result c.from_residual.ensures.1 in
    let s = c.args in
    let whole = lagoon_of s.cells s.faces (tables_of s.volumes.now s.firsts.now s.seconds.now s.shares.now s.reaches.now s.masses.now s.fluxes.now
    s.outsides.now s.releases.now) in
    let lent-0 = tables_of s.volumes0.now s.firsts0.now s.seconds0.now s.shares0.now s.reaches0.now s.masses0.now s.fluxes0.now s.outsides0.now
    s.releases0.now in
    let lent-1 = tables_of s.volumes1.now s.firsts1.now s.seconds1.now s.shares1.now s.reaches1.now s.masses1.now s.fluxes1.now s.outsides1.now
    s.releases1.now in
    rw (p.1, p.2) (promise-refused whole s.labels.now lent-0 lent-1 _ c.verdict.ensures _ c.in_err-verdict.was)

pub part-part_0-requires : goal.part-part_0-requires
unfolding counts cut_tables
part-part_0-requires c =
    let s = c.args in
    let whole = lagoon_of s.cells s.faces (tables_of s.volumes.now s.firsts.now s.seconds.now s.shares.now s.reaches.now s.masses.now s.fluxes.now
    s.outsides.now s.releases.now) in
    let lent-0 = tables_of s.volumes0.now s.firsts0.now s.seconds0.now s.shares0.now s.reaches0.now s.masses0.now s.fluxes0.now s.outsides0.now
    s.releases0.now in
    let lent-1 = tables_of s.volumes1.now s.firsts1.now s.seconds1.now s.shares1.now s.reaches1.now s.masses1.now s.fluxes1.now s.outsides1.now
    s.releases1.now in
    let e = found-fine whole s.labels.now lent-0 lent-1 _ c.verdict.ensures c.in_ok-verdict.was in
    cuttable whole s.labels.now lent-0 lent-1 e lent-0 (room_0 whole s.labels.now lent-0 lent-1 e)

pub part-part_1-requires : goal.part-part_1-requires
unfolding counts cut_tables
part-part_1-requires c =
    let s = c.args in
    let whole = lagoon_of s.cells s.faces (tables_of s.volumes.now s.firsts.now s.seconds.now s.shares.now s.reaches.now s.masses.now s.fluxes.now
    s.outsides.now s.releases.now) in
    let lent-0 = tables_of s.volumes0.now s.firsts0.now s.seconds0.now s.shares0.now s.reaches0.now s.masses0.now s.fluxes0.now s.outsides0.now
    s.releases0.now in
    let lent-1 = tables_of s.volumes1.now s.firsts1.now s.seconds1.now s.shares1.now s.reaches1.now s.masses1.now s.fluxes1.now s.outsides1.now
    s.releases1.now in
    let e = found-fine whole s.labels.now lent-0 lent-1 _ c.verdict.ensures c.in_ok-verdict.was in
    cuttable whole s.labels.now lent-0 lent-1 e lent-1 (room-1 whole s.labels.now lent-0 lent-1 e)

pub returns : goal.returns
unfolding counts cut_tables
returns c =
    let s = c.args in
    let whole = lagoon_of s.cells s.faces (tables_of s.volumes.now s.firsts.now s.seconds.now s.shares.now s.reaches.now s.masses.now s.fluxes.now
    s.outsides.now s.releases.now) in
    let lent-0 = tables_of s.volumes0.now s.firsts0.now s.seconds0.now s.shares0.now s.reaches0.now s.masses0.now s.fluxes0.now s.outsides0.now
    s.releases0.now in
    let lent-1 = tables_of s.volumes1.now s.firsts1.now s.seconds1.now s.shares1.now s.reaches1.now s.masses1.now s.fluxes1.now s.outsides1.now
    s.releases1.now in
    let e = found-fine whole s.labels.now lent-0 lent-1 _ c.verdict.ensures c.in_ok-verdict.was in
    promise-done whole s.labels.now lent-0 lent-1 e _ _ _ _ c.part-part_0.ensures c.part-part_1.ensures
