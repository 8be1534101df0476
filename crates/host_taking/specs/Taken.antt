-- Cited by inner contracts only: a mesh record and a field record taken into tables of a call's own, the answer, and what the tables hold after
-- acceptance. What is found of the records is host_tested's.
use Rattle.std.specs.Prelude.{ℕ, ◌≤◌, ◌≡◌, List, length, take, Result, Ok, Err}
use Rattle.model.specs.Mesh.{Mesh}
use Rattle.model.specs.Meshes.{at_counts, parted}
use Rattle.model.specs.Accepted.{MeshLent}
use Rattle.model.specs.Causes.{Outcome, accepted, fine, ◌and_then◌}
use Rattle.model.specs.Answers.{told}
use Rattle.record_heads.specs.Heads.{width_in}
use Rattle.record_reading.specs.Reading.{mesh_in}
use Rattle.host_tested.specs.Tested.{field_tested, field_in, total_held}
use Rattle.host_taking.specs.declared.FieldCounts.{FieldCounts}
use Rattle.model.specs.declared.Refusal.{Refusal}

module _ (mesh field : List ℕ) where
  abbrev pub taken_in : FieldCounts
  taken_in = record { cells = (mesh_in mesh).cells; faces = (mesh_in mesh).faces; width = width_in mesh; total = total_held mesh field }

-- the counts, the width and the total, or number and place
abbrev pub field_taken_said : Result FieldCounts Refusal → Outcome FieldCounts
field_taken_said (Ok n) = accepted n
field_taken_said (Err r) = told r

-- a table whose first n entries are xs
pub record Front (n : ℕ) (xs ys : List ℕ) : Type 0 where
  pub fits : n ≤ length ys
  pub part : take n ys ≡ xs

-- tables whose counted parts are the mesh and the field of the records
pub record TablesHeld (mesh field : List ℕ) (left : Mesh) (masses : List ℕ) : Type 0 where
  pub mesh-long : MeshLent (at_counts (mesh_in mesh) left)
  pub mesh_held : parted (at_counts (mesh_in mesh) left) ≡ mesh_in mesh
  pub masses_held : Front (mesh_in mesh).cells (field_in mesh field) masses

-- The answer, and after acceptance the tables, which are a call's own: nobody looks at them after a refusal.
pub record RecordsTaking (mesh field : List ℕ) (r : Result FieldCounts Refusal) (left : Mesh) (masses : List ℕ) : Type 0 where
  pub answer : field_taken_said r ≡ (field_tested mesh field and_then accepted (taken_in mesh field))
  pub tables : field_tested mesh field ≡ fine → TablesHeld mesh field left masses

-- the same of a call that looks at cells alone
pub record CellsTaking (mesh field : List ℕ) (r : Result FieldCounts Refusal) (volumes masses : List ℕ) : Type 0 where
  pub answer : field_taken_said r ≡ (field_tested mesh field and_then accepted (taken_in mesh field))
  pub volumes_held : field_tested mesh field ≡ fine → Front (mesh_in mesh).cells (mesh_in mesh).volumes volumes
  pub masses_held : field_tested mesh field ≡ fine → Front (mesh_in mesh).cells (field_in mesh field) masses
