-- The arrays of its own are zeros.
use Rattle.std.proofs.Common.{◌+◌}
use Rattle.model.specs.Mesh.{max_cells}
use Rattle.judging_bounds.proofs.Laws.{zeros}
use Rattle.judging_next.proofs.values.Goals as goal

pub fill_in-requires-clause-enters_value : goal.fill_in-requires-clause-enters_value
fill_in-requires-clause-enters_value c = (zeros (max_cells + 1), zeros (max_cells + 1))
