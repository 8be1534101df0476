-- What the first passes leave is what 21 and 22 ask for.
use Rattle.std.proofs.Common.{sym, ◌∙◌}
use Rattle.std.proofs.lemmas.Result.{err_from_is_err_and}
use Rattle.model.specs.Mesh.{mesh_of}
use Rattle.judging.proofs.Laws.{salted, released-asks, faces-fit, bordered, claims-are, refused-21, refused-22, both-passed}
use Rattle.judging.proofs.judged_in.Goals as goal

pub returns-in_err-claims_good : goal.returns-in_err-claims_good
returns-in_err-claims_good c =
    let M = mesh_of c.args.cells c.args.faces c.args.volumes.now c.args.firsts.now c.args.seconds.now c.args.shares.now c.args.reaches.now in
    let p = err_from_is_err_and c.from_residual.result c.from_residual.ensures.1 in
    rw (p.1, p.2) (refused-21 M c.args.masses.now c.args.fluxes.now c.args.outsides.now c.args.releases.now
    c.requires.ready.0 c.requires.ready.1 c.requires.ready.2 c.args.claim.now c.requires.ready.3 _ _ _ _ _ c.first_passes-crossed.ensures (sym c.in_err-claims_good.ensures))

pub values-requires-clause-faces_fit : goal.values-requires-clause-faces_fit
values-requires-clause-faces_fit c =
    let M = mesh_of c.args.cells c.args.faces c.args.volumes.now c.args.firsts.now c.args.seconds.now c.args.shares.now c.args.reaches.now in
    let e = sym (claims-are M c.args.masses.now c.args.fluxes.now c.args.outsides.now c.args.releases.now
    c.requires.ready.0 c.requires.ready.1 c.requires.ready.2 c.args.claim.now c.requires.ready.3 _ _ _ _ _ c.first_passes-crossed.ensures) ∙ sym c.in_ok-claims_good.ensures in
    faces-fit M c.args.masses.now c.args.fluxes.now c.args.outsides.now c.args.releases.now
    c.requires.ready.0 c.requires.ready.1 c.requires.ready.2 c.args.claim.now c.requires.ready.3 e

pub values-requires-clause-salted : goal.values-requires-clause-salted
values-requires-clause-salted c =
    let M = mesh_of c.args.cells c.args.faces c.args.volumes.now c.args.firsts.now c.args.seconds.now c.args.shares.now c.args.reaches.now in (
      salted M c.args.masses.now c.args.fluxes.now c.args.outsides.now c.args.releases.now
          c.requires.ready.0 c.requires.ready.1 c.requires.ready.2,
      bordered M c.args.masses.now c.args.fluxes.now c.args.outsides.now c.args.releases.now
          c.requires.ready.0 c.requires.ready.1 c.requires.ready.2 c.args.claim.now c.requires.ready.3 _ _ _ _ _ c.first_passes-crossed.ensures,
    )

pub returns-in_err-values : goal.returns-in_err-values
returns-in_err-values c =
    let M = mesh_of c.args.cells c.args.faces c.args.volumes.now c.args.firsts.now c.args.seconds.now c.args.shares.now c.args.reaches.now in
    let p = err_from_is_err_and c.from_residual-in_err-values.result c.from_residual-in_err-values.ensures.1 in
    rw (p.1, p.2) (refused-22 M c.args.masses.now c.args.fluxes.now c.args.outsides.now c.args.releases.now
    c.requires.ready.0 c.requires.ready.1 c.requires.ready.2 c.args.claim.now c.requires.ready.3 _ _ _ _ _ c.first_passes-crossed.ensures (sym c.in_ok-claims_good.ensures) (sym c.in_err-values.ensures))

pub sum_of-requires : goal.sum_of-requires
sum_of-requires c =
    let M = mesh_of c.args.cells c.args.faces c.args.volumes.now c.args.firsts.now c.args.seconds.now c.args.shares.now c.args.reaches.now in
    released-asks M c.args.masses.now c.args.fluxes.now c.args.outsides.now c.args.releases.now
    c.requires.ready.0 c.requires.ready.1 c.requires.ready.2

pub returns : goal.returns
returns c =
    let M = mesh_of c.args.cells c.args.faces c.args.volumes.now c.args.firsts.now c.args.seconds.now c.args.shares.now c.args.reaches.now in
    both-passed M c.args.masses.now c.args.fluxes.now c.args.outsides.now c.args.releases.now
    c.requires.ready.0 c.requires.ready.1 c.requires.ready.2 c.args.claim.now c.requires.ready.3 _ _ _ _ _ c.first_passes-crossed.ensures (sym c.in_ok-claims_good.ensures) (sym c.in_ok-values.ensures) _ c.sum_of.ensures
