-- L is not below 0 and G neither, since the low-order mass is within the bounds; what `fill` writes is the definition.
use Rattle.step_cell.specs.Work.{allowances_of}
use Rattle.step_cell.proofs.allowance_at.Goals as goal

pub returns : goal.returns
unfolding allowances_of
returns c = c.fill.ensures
