-- Document 01, "Tables lent to a step": the host's records of a mesh, of a field and of a step, in this order, each as the run judges it. Document 02,
-- S-10: the mesh record fixes the width of the two after it.
use Rattle.std.specs.Prelude.{ℕ, List}
use Rattle.model.specs.Mesh.{total, run_cells}
use Rattle.model.specs.Causes.{Verdict, ◌and_then◌, cells_only}
use Rattle.model.specs.Calls.{mass_in}
use Rattle.record_heads.specs.Heads.{width_in}
use Rattle.record_reading.specs.Reading.{mesh_in, masses_in}
use Rattle.taking_mesh.specs.MeshTaking.{mesh_judged_in_run}
use Rattle.taking.specs.Taking.{field_judged, step_judged}

module _ (mesh field : List ℕ) where
  -- what the field record holds
  abbrev pub field_in : List ℕ
  field_in = masses_in field (mesh_in mesh).cells

  -- what is found of the field record on an accepted mesh, and with the mesh record before it
  abbrev pub field_alone : Verdict
  field_alone = field_judged (width_in mesh) (mesh_in mesh).cells (mesh_in mesh).volumes field run_cells

  abbrev pub field_tested : Verdict
  field_tested = mesh_judged_in_run mesh and_then field_alone

  -- and so of the step record
  module _ (step : List ℕ) where
    abbrev pub step_alone : Verdict
    step_alone = step_judged (width_in mesh) (mesh_in mesh) field_in step

    abbrev pub step_tested : Verdict
    step_tested = field_tested and_then step_alone

  -- the total of the field
  abbrev pub total_held : ℕ
  total_held = total (cells_only (mesh_in mesh).cells (mesh_in mesh).volumes) (mass_in field_in)
