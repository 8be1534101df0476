-- Document 01, "Tables lent to a step", for a host in C, on a mesh, a field and a step record: what a step finds, and what comes in and goes out in it.
-- The records stay as they are, and no next field is written, so there is no room to ask for.
use Rattle.std.specs.Prelude.{ℕ, List, [], ◌∷◌}
use Rattle.model.specs.Causes.{Outcome, accepted, ◌and_then◌}
use Rattle.record_reading.specs.Reading.{mesh_in}
use Rattle.model.specs.declared.Printed.{Printed}
use Rattle.taking.specs.Taking.{step_in, printed_of}
use Rattle.host_tested.specs.Tested.{field_in, step_tested}

module _ (mesh field step : List ℕ) where
  abbrev pub step_found : Outcome Printed
  step_found = step_tested mesh field step and_then accepted (printed_of (mesh_in mesh) (field_in mesh field) (step_in (mesh_in mesh) step))

-- in-mass, out-mass and document 02's released mass
abbrev pub crossed_in : Printed → List ℕ
crossed_in p = p.entered ∷ p.gone ∷ p.released ∷ []
