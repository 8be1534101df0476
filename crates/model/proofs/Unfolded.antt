-- Names for what a figure computes through: to unfold one is to unfold what its line names. A stage or a cause that is new has its name here.
use Rattle.lists.specs.Fold.{sum, least, greatest}
use Rattle.lists.specs.Table.{table, over}
use Rattle.model.specs.Mesh.{entering, leaving, incoming, outgoing, updated, total}
use Rattle.model.specs.Step.{raised, released_mass, rounded, beyond, upwind, downwind, carried, low, upwind_share, correction, smooths, kept_by, low_concentration, kept, adjacent, lo, hi, max_gain, max_loss, portion, receiver, giver, limited_by, limited, moved, next, in_mass, out_mass}
use Rattle.model.specs.Causes.{◌and_then◌, need, each, counts_within, counts, mesh_tables, field_table, step_tables, volume_good, ends_good, spacing_good, mesh_values, salt_good, field_values, raised_good, raised_values, outside_good, flux_good, balance_good, outflow_good, step_values, mesh_verdict, field_verdict, mesh_field_verdict, verdict}
use Rattle.model.specs.Calls.{step_answer, next_table, moved_table, work_table, step_on_tables, after_all, total_in, total_out, total_released}

unfoldable pub of-sums : Unit {0}
unfolding sum least greatest table over
of-sums = tt

unfoldable pub of-faces : Unit {0}
unfolding entering leaving incoming outgoing updated total
of-faces = tt

unfoldable pub of-stages : Unit {0}
unfolding raised released_mass rounded beyond upwind downwind carried low upwind_share correction smooths kept_by low_concentration kept adjacent lo hi max_gain
    max_loss portion receiver giver limited_by limited moved next in_mass out_mass
of-stages = tt

unfoldable pub of-causes : Unit {0}
unfolding ◌and_then◌ need each counts_within counts mesh_tables field_table step_tables volume_good ends_good spacing_good mesh_values salt_good field_values
    raised_good raised_values outside_good flux_good balance_good outflow_good step_values mesh_verdict field_verdict mesh_field_verdict verdict
of-causes = tt

unfoldable pub of_calls : Unit {0}
unfolding step_answer next_table moved_table work_table step_on_tables after_all total_in total_out total_released
of_calls = tt

unfoldable pub the_step : Unit {0}
unfolding of-sums of-faces of-stages of-causes of_calls
the_step = tt
