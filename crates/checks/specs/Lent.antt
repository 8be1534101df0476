-- Document 01, "Causes", 1 and 2 of a step.
use Rattle.std.specs.Prelude.{List, ℕ}
use Rattle.model.specs.Mesh.{Mesh}
use Rattle.model.specs.Causes.{Verdict, ◌and_then◌, counts, mesh_tables, field_table, step_tables, Call}

abbrev pub tables_lent : Mesh → List ℕ → Call → Verdict
tables_lent M field k = counts M and_then mesh_tables M and_then field_table M field and_then step_tables M field k
