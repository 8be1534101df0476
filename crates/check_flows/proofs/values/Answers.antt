-- The arrays are zeros, as `values_in` asks.
use Rattle.std.proofs.Common.{◌+◌}
use Rattle.model.specs.Mesh.{max_cells}
use Rattle.check_flows.proofs.Gathering.{zeros}
use Rattle.check_flows.proofs.values.Goals as goal

pub values_in-requires-clause-inflow_value : goal.values_in-requires-clause-inflow_value
values_in-requires-clause-inflow_value c = (zeros (max_cells + 1), zeros (max_cells + 1))
