-- Where both pass, each face is fine and the sums say that 9 and 10 are (`faces-pass`).
use Rattle.check_passing.proofs.Laws.{faces-pass}
use Rattle.check_passing.proofs.pass.Goals as goal

pub returns : goal.returns
returns c =
    let done = c.faces_fit.ensures c.if-not-faces_fit.false in
    λ e. faces-pass c.args.firsts.now c.args.seconds.now c.args.fluxes.now c.args.cells c.args.faces c.args.volumes.now c.args.shares.now c.args.reaches.now
    c.args.outsides.now c.faces_fit.new.sums c.requires.cells_le_max_cells.1 done.0 done.1 (c.sums_fit.ensures e)
