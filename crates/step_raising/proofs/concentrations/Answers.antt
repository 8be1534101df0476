-- The mass of the turn's cell is the raised one, and the cell has its entries (`concentrations-turn`).
use Rattle.std.proofs.Common.{◌≡◌, arith, sym, get_or, ◌∙◌}
use Rattle.model.specs.Step.{raised}
use Rattle.model.proofs.Raised.{raised_at}
use Rattle.step_raising.proofs.ConcentrationLaws.{concentrations-turn}
use Rattle.step_raising.proofs.concentrations.Goals as goal

pub loop-c-preserved : goal.loop-c-preserved
loop-c-preserved c =
    let mass-is : get_or (raised c.args.cells c.args.masses.now c.args.releases.now) c.loop-c.c 0 ≡ c.raised_mass-mass.result =
    raised_at c.args.cells c.args.masses.now c.args.releases.now c.loop-c.c c.loop-c-test.true ∙ sym c.raised_mass-mass.ensures in
    concentrations-turn _ _ _ _ _ _ _ _ (omega arith) (omega arith) c.loop-c.invariant
    (rw mass-is c.start_cell.ensures.next_after) (rw mass-is c.start_cell.ensures.work_after)
