-- Document 02, S-12, for a host in C: a lagoon in a mesh, a field and a step record, cut in two by a label for each cell, and each part in three
-- records of its own: of the whole's width, the step of the whole's kind. The labels are judged after the mesh and before the field, as 23 and 24
-- follow 5 and come before 6; then come field and step, as the step on records tests them, and the room for the six records last.
use Rattle.std.specs.Prelude.{ℕ, ◌≡◌, List, [], ◌∷◌, ℤ, pos, length}
use Rattle.lists.specs.Table.{over}
use Rattle.model.specs.Mesh.{Mesh, run_cells, run_faces}
use Rattle.model.specs.Causes.{accepted, Verdict, ◌and_then◌, granted, long, bytes_long}
use Rattle.cutting_parts.specs.Cut.{Tables, tables_of, Lagoon, lagoon_of, whole_mesh, part_of}
use Rattle.cutting_parts.specs.Refusals.{label_values}
use Rattle.record_layouts.specs.Layouts.{mesh_kind, field_kind, mesh_record, field_record, step_record, mesh_length, field_length, step_length}
use Rattle.record_layouts.specs.declared.Width.{Width}
use Rattle.record_heads.specs.Heads.{kind_in, width_in}
use Rattle.record_reading.specs.Reading.{mesh_in, fluxes_in, outsides_in, releases_in}
use Rattle.taking_mesh.specs.MeshTaking.{mesh_judged_in_run}
use Rattle.taking.specs.Taking.{blank}
use Rattle.host_answer.specs.Found.{Answered}
use Rattle.host_tested.specs.Tested.{field_in, step_tested}
use Rattle.host_cut_promises.specs.declared.PartLengths.{PartLengths}
use Rattle.host_cut_promises.specs.declared.CutLengths.{CutLengths}

-- the three records of a lagoon
pub record Records : Type 0 where
  pub mesh : List ℕ
  pub field : List ℕ
  pub step : List ℕ

abbrev pub records_of : (mesh field step : List ℕ) → Records
records_of mesh field step = record { mesh = mesh; field = field; step = step }

-- the tables of a part are the call's own, as long as the run's limits
abbrev pub own_part : Tables
own_part = tables_of (blank run_cells 0) (blank run_faces 0) (blank run_faces 0) (blank run_faces 0) (blank run_faces 0) (blank run_cells 0)
    (blank run_faces (pos 0)) (blank run_faces 0) (blank run_cells 0)

-- A lagoon in records of width w, its step of this kind: how long they are, written over lent bytes, and what room they ask.
module _ (w : Width) (kind : ℕ) (P : Lagoon) where
  abbrev pub lengths_of : PartLengths
  lengths_of = record {
    mesh = mesh_length (mesh_kind w) P.cells P.faces;
    field = field_length (field_kind w) P.cells;
    step = step_length kind P.cells P.faces P.tables.seconds;
  }

  abbrev pub mesh_bytes : List ℕ
  mesh_bytes = mesh_record (mesh_kind w) (whole_mesh P)

  abbrev pub field_bytes : List ℕ
  field_bytes = field_record (field_kind w) P.cells P.tables.masses

  abbrev pub step_bytes : List ℕ
  step_bytes = step_record kind P.cells P.faces P.tables.seconds P.tables.fluxes P.tables.outsides P.tables.releases

  abbrev pub records_over : Records → Records
  records_over lent = records_of (over mesh_bytes lent.mesh) (over field_bytes lent.field) (over step_bytes lent.step)

  abbrev pub room_finds : (mesh field step : ℕ) → Verdict
  room_finds mesh field step = bytes_long lengths_of.mesh mesh and_then bytes_long lengths_of.field field and_then bytes_long lengths_of.step step

-- part p of a lagoon, in such tables
abbrev pub piece : Lagoon → (labels : List ℕ) → ℕ → Lagoon
piece L labels p = part_of L labels p own_part

-- both parts
module _ (w : Width) (kind : ℕ) (L : Lagoon) (labels : List ℕ) where
  abbrev pub both_lengths : CutLengths
  both_lengths =
      let a = lengths_of w kind (piece L labels 0) in
      let b = lengths_of w kind (piece L labels 1) in
      record { mesh_0 = a.mesh; field_0 = a.field; step_0 = a.step; mesh_1 = b.mesh; field_1 = b.field; step_1 = b.step }

  abbrev pub rooms_find : Records → Records → Verdict
  rooms_find a b = room_finds w kind (piece L labels 0) (length a.mesh) (length a.field) (length a.step)
      and_then room_finds w kind (piece L labels 1) (length b.mesh) (length b.field) (length b.step)

-- the lagoon of a mesh, a field and a step, on tables and read
abbrev pub lagoon_on : Mesh → List ℕ → List ℤ → List ℕ → List ℕ → Lagoon
lagoon_on M masses fluxes outsides releases =
    lagoon_of M.cells M.faces (tables_of M.volumes M.firsts M.seconds M.shares M.reaches masses fluxes outsides releases)

abbrev pub lagoon_read : Mesh → (masses step : List ℕ) → Lagoon
lagoon_read M masses step =
    lagoon_on M masses (fluxes_in step M.faces) (outsides_in step M.faces M.seconds) (releases_in step M.cells M.faces M.seconds)

-- the labels of so many cells, which look at nothing else of a lagoon: 2 with place 15, 23 and 24
unfoldable pub labels_find : (cells : ℕ) → List ℕ → Verdict
labels_find cells labels = long 15 cells (length labels) and_then label_values (lagoon_of cells 0 own_part) labels

-- on records: the mesh with its labels, and the lagoon
abbrev pub labelled : (mesh labels : List ℕ) → Verdict
labelled mesh labels = mesh_judged_in_run mesh and_then labels_find (mesh_in mesh).cells labels

abbrev pub lagoon_in : (mesh field step : List ℕ) → Lagoon
lagoon_in mesh field step = lagoon_read (mesh_in mesh) (field_in mesh field) step

-- the bytes of the six records
abbrev pub lengths_found : CutLengths → List ℕ
lengths_found n = n.mesh_0 ∷ n.field_0 ∷ n.step_0 ∷ n.mesh_1 ∷ n.field_1 ∷ n.step_1 ∷ []

module _ (mesh field step labels : List ℕ) where
  abbrev L : Lagoon
  L = lagoon_in mesh field step

  abbrev pub cut_tested : Verdict
  cut_tested = labelled mesh labels and_then step_tested mesh field step

  abbrev pub cut_found : Records → Records → Verdict
  cut_found lent₀ lent₁ = cut_tested and_then rooms_find (width_in mesh) (kind_in step) L labels lent₀ lent₁

  -- The promise: the number and what is found, and the bytes of each part afterwards. A refusal leaves all of them as they were.
  pub record CutFromC (lent₀ lent₁ : Records) (found : List ℕ) (r : ℕ) (after₀ after₁ : Records) (found' : List ℕ) : Type 0 where
    pub answer : Answered lengths_found (cut_found lent₀ lent₁ and_then accepted (both_lengths (width_in mesh) (kind_in step) L labels)) found r found'
    pub part_0 : after₀ ≡ granted (cut_found lent₀ lent₁) (records_over (width_in mesh) (kind_in step) (piece L labels 0) lent₀) lent₀
    pub part_1 : after₁ ≡ granted (cut_found lent₀ lent₁) (records_over (width_in mesh) (kind_in step) (piece L labels 1) lent₁) lent₁
