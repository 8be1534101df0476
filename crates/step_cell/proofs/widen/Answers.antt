-- The least and the greatest are those of the two calls.
use Rattle.step_cell.specs.Work.{widened}
use Rattle.step_cell.proofs.widen.Goals as goal

pub returns : goal.returns
unfolding widened
returns c = rw (c.greatest_of-hi.ensures, c.least_of-lo.ensures)
