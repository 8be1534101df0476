-- The four entries are written as the definition has them.
use Rattle.std.proofs.Common.{refl}
use Rattle.step_cell.specs.Work.{cell_filled}
use Rattle.step_cell.proofs.fill.Goals as goal

pub returns : goal.returns
unfolding cell_filled
returns c = refl
