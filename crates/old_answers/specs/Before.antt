-- Documents 01 and 02 as they were before S-10, of records: kinds 1 to 4, 12 bits for V, K and the size of U, 32 for masses and releases, 4,095
-- as the ceiling of 3, 5 and 8. No code rests on them; OldCalls.antt says that the calls on such records answer by them. What S-10 left alone
-- is named from where it stands: the fields of a head, each cause's test, the step itself.
use Rattle.std.specs.Prelude.{ℕ, ◌*◌, ◌^◌, min, cond, not, ◌&&◌, ◌||◌, List, [], ◌∷◌, eqb, leb, ltb, length, get_or, ℤ, Result}
use Rattle.lists.specs.Table.{table, over}
use Rattle.signed.specs.Sign.{with_sign}
use Rattle.model.specs.Mesh.{Mesh, mesh_of, max_cells, max_faces, run_cells, run_faces, old_ceiling}
use Rattle.model.specs.Step.{next}
use Rattle.model.specs.Causes.{Outcome, accepted, Verdict, ◌and_then◌, in_turn, granted, need, each, between, counts_within, long, bytes_long, Call, water_of, cells_only, input_of, counts, mesh_tables, mesh_values, field_table, field_values, outside_good, flux_good, causes_within}
use Rattle.record_sections.specs.Sections.{Section, per, per_that, once, shape_bits, length_of, width, value_in, column_in, record_of}
use Rattle.record_layouts.specs.Layouts.{is_rim, mesh_value, field_value, step_value}
use Rattle.record_heads.specs.Heads.{kind_in, cells_in, faces_in, step_faces_in, has_length}
use Rattle.record_zeros.specs.Zeros.{zero_bit_good, minus_zero}
use Rattle.record_causes.specs.Verdicts.{no_field}
use Rattle.record_writing.specs.Writing.{Writing}
use Rattle.taking.specs.Taking.{own_tables}
use Rattle.model.specs.declared.Refusal.{Refusal}

-- Document 01, "Record layouts", the table in its figures: a mesh, a field, a step. S-6: kind 4 ends with a release for each cell.
abbrev pub old_mesh_shape : (cells faces : ℕ) → List Section
old_mesh_shape cells faces = once (4 ∷ 12 ∷ 13 ∷ 3 ∷ []) ∷ per cells (12 ∷ []) ∷ per faces (12 ∷ 12 ∷ 8 ∷ 12 ∷ []) ∷ []

abbrev pub old_field_shape : ℕ → List Section
old_field_shape cells = once (4 ∷ 12 ∷ []) ∷ per cells (32 ∷ []) ∷ []

abbrev pub old_release_bits : ℕ → ℕ
old_release_bits kind = cond (eqb kind 4) 32 0

abbrev pub old_step_shape : (kind cells faces : ℕ) → List ℕ → List Section
old_step_shape kind cells faces seconds = once (4 ∷ 13 ∷ 15 ∷ []) ∷ per faces (1 ∷ 12 ∷ []) ∷ per_that faces (is_rim seconds) (20 ∷ [])
    ∷ per cells (old_release_bits kind ∷ []) ∷ []

-- What a record holds, by the columns of a shape.
abbrev pub mesh_by : List Section → List ℕ → Mesh
mesh_by S bs = mesh_of (cells_in bs) (faces_in bs) (column_in bs S 1 0) (column_in bs S 2 0) (column_in bs S 2 1) (column_in bs S 2 2) (column_in bs S 2 3)

abbrev pub fluxes_by : List Section → List ℕ → ℕ → List ℤ
fluxes_by S bs faces = table faces (λ f. with_sign (eqb (value_in bs S 1 0 f) 1) (value_in bs S 1 1 f))

abbrev pub step_by : List Section → List ℕ → ℕ → Call
step_by S bs faces = own_tables (fluxes_by S bs faces) (column_in bs S 2 0) (column_in bs S 3 0)

module _ (bs : List ℕ) where
  abbrev pub old_shape_in : List Section
  old_shape_in = old_mesh_shape (cells_in bs) (faces_in bs)

  abbrev pub old_mesh_in : Mesh
  old_mesh_in = mesh_by old_shape_in bs

  abbrev pub old_masses_in : ℕ → List ℕ
  old_masses_in cells = column_in bs (old_field_shape cells) 1 0

  abbrev pub old_step_shape_in : (cells faces : ℕ) → List ℕ → List Section
  old_step_shape_in cells faces seconds = old_step_shape (kind_in bs) cells faces seconds

abbrev pub old_step_in : Mesh → List ℕ → Call
old_step_in M bs = step_by (old_step_shape_in bs M.cells M.faces M.seconds) bs M.faces

-- "Causes", of reading, in its order: 11 for a record shorter than its head, 13, 1, in a step 2 for the seconds; 11 for another length, 2, and 12 by the bit.
unfoldable pub old_mesh_head : (most_cells most_faces : ℕ) → List ℕ → Verdict
old_mesh_head most_cells most_faces bs = need 11 0 (leb 4 (length bs)) and_then need 13 0 (eqb (kind_in bs) 1)
    and_then counts_within (min most_cells max_cells) (min most_faces max_faces) (cells_in bs) (faces_in bs)

unfoldable pub mesh_body_by : List Section → List ℕ → (volumes firsts seconds shares reaches : ℕ) → Verdict
mesh_body_by S bs volumes firsts seconds shares reaches = has_length bs (length_of S) and_then long 0 (cells_in bs) volumes and_then long 1 (faces_in bs) firsts
    and_then long 2 (faces_in bs) seconds and_then long 3 (faces_in bs) shares and_then long 4 (faces_in bs) reaches
    and_then each 12 (8 * length bs) (zero_bit_good bs 3 32 (shape_bits S))

abbrev pub old_mesh_read : (most_cells most_faces : ℕ) → List ℕ → (volumes firsts seconds shares reaches : ℕ) → Verdict
old_mesh_read most_cells most_faces bs volumes firsts seconds shares reaches =
    old_mesh_head most_cells most_faces bs and_then mesh_body_by (old_shape_in bs) bs volumes firsts seconds shares reaches

unfoldable pub old_field_head : ℕ → List ℕ → Verdict
old_field_head cells bs = need 11 0 (leb 2 (length bs)) and_then need 13 0 (eqb (kind_in bs) 2) and_then need 13 1 (eqb (cells_in bs) cells)
    and_then need 1 0 (between 1 max_cells cells)

unfoldable pub field_body_by : List Section → ℕ → List ℕ → ℕ → Verdict
field_body_by S cells bs masses = has_length bs (length_of S) and_then long 5 cells masses

abbrev pub old_field_read : ℕ → List ℕ → ℕ → Verdict
old_field_read cells bs masses = old_field_head cells bs and_then field_body_by (old_field_shape cells) cells bs masses

unfoldable pub old_step_head : (cells faces : ℕ) → List ℕ → List ℕ → Verdict
old_step_head cells faces seconds bs = need 11 0 (leb 4 (length bs)) and_then need 13 0 (eqb (kind_in bs) 3 || eqb (kind_in bs) 4)
    and_then need 13 1 (eqb (step_faces_in bs) faces) and_then counts_within max_cells max_faces cells faces and_then long 2 faces (length seconds)

-- 12 of a step: the zero bits, and the minus of a size 0
unfoldable pub step_body_by : List Section → (cells faces : ℕ) → List ℕ → (fluxes outsides releases : ℕ) → Verdict
step_body_by S cells faces bs fluxes outsides releases = has_length bs (length_of S) and_then long 6 faces fluxes and_then long 7 faces outsides
    and_then long 14 cells releases and_then each 12 (8 * length bs) (λ i. zero_bit_good bs 15 32 (shape_bits S) i && not (minus_zero bs (width S 1 1) faces i))

abbrev pub old_step_read : (cells faces : ℕ) → List ℕ → List ℕ → (fluxes outsides releases : ℕ) → Verdict
old_step_read cells faces seconds bs fluxes outsides releases =
    old_step_head cells faces seconds bs and_then step_body_by (old_step_shape_in bs cells faces seconds) cells faces bs fluxes outsides releases

-- How many bytes a record needs, as its head says.
abbrev pub old_mesh_needs : (most_cells most_faces : ℕ) → List ℕ → Outcome ℕ
old_mesh_needs most_cells most_faces bs = old_mesh_head most_cells most_faces bs and_then accepted (length_of (old_shape_in bs))

abbrev pub old_field_needs : ℕ → List ℕ → Outcome ℕ
old_field_needs cells bs = old_field_head cells bs and_then accepted (length_of (old_field_shape cells))

abbrev pub old_step_needs : (cells faces : ℕ) → List ℕ → List ℕ → Outcome ℕ
old_step_needs cells faces seconds bs = old_step_head cells faces seconds bs and_then accepted (length_of (old_step_shape_in bs cells faces seconds))

-- "Causes", of writing: 1, 2 with the bytes among the tables, 3 to 6, in a step 18 before 7 and 8; the length, and the bytes.
module _ (M : Mesh) where
  abbrev pub old_mesh_writing : List ℕ → (Result ℕ Refusal) → List ℕ → Type 0
  old_mesh_writing bytes = Writing
      (counts M and_then mesh_tables M and_then bytes_long (length_of (old_mesh_shape M.cells M.faces)) (length bytes) and_then mesh_values old_ceiling M)
      (length_of (old_mesh_shape M.cells M.faces)) (record_of (old_mesh_shape M.cells M.faces) (mesh_value 1 M)) bytes

  abbrev pub old_field_writing : List ℕ → List ℕ → (Result ℕ Refusal) → List ℕ → Type 0
  old_field_writing masses bytes = Writing
      (counts M and_then mesh_tables M and_then field_table M masses and_then bytes_long (length_of (old_field_shape M.cells)) (length bytes)
      and_then mesh_values old_ceiling M and_then field_values M masses)
      (length_of (old_field_shape M.cells)) (record_of (old_field_shape M.cells) (field_value 2 M.cells masses)) bytes

  -- of kind 3 or 4
  abbrev pub old_step_writing : (kind : ℕ) → List ℤ → List ℕ → List ℕ → List ℕ → (Result ℕ Refusal) → List ℕ → Type 0
  old_step_writing kind fluxes outsides releases bytes = Writing
      (counts M and_then mesh_tables M and_then long 6 M.faces (length fluxes) and_then long 7 M.faces (length outsides)
      and_then bytes_long (length_of (old_step_shape kind M.cells M.faces M.seconds)) (length bytes) and_then long 14 M.cells (length releases)
      and_then mesh_values old_ceiling M and_then each 18 M.cells (λ c. ltb (get_or releases c 0) (2 ^ old_release_bits kind))
      and_then each 7 M.faces (outside_good M no_field (water_of fluxes outsides releases))
      and_then each 8 M.faces (flux_good old_ceiling M no_field (water_of fluxes outsides releases)))
      (length_of (old_step_shape kind M.cells M.faces M.seconds))
      (record_of (old_step_shape kind M.cells M.faces M.seconds) (step_value kind M.faces fluxes outsides releases)) bytes

-- "The board and the run": a record is read into tables of the run's limits, then judged by the causes of its values.
unfoldable pub old_mesh_judged : List ℕ → (volumes firsts seconds shares reaches : ℕ) → Verdict
old_mesh_judged bs volumes firsts seconds shares reaches = old_mesh_read run_cells run_faces bs run_cells run_faces run_faces run_faces run_faces
    and_then (long 0 (cells_in bs) volumes
    and_then long 1 (faces_in bs) firsts
    and_then long 2 (faces_in bs) seconds
    and_then long 3 (faces_in bs) shares
    and_then long 4 (faces_in bs) reaches)
    and_then mesh_values old_ceiling (old_mesh_in bs)

-- the causes of calls that are lent the cells, their volumes and masses
unfoldable pub old_cells_verdict : ℕ → List ℕ → List ℕ → Verdict
old_cells_verdict cells volumes masses = in_turn
    (counts (cells_only cells volumes) ∷ mesh_tables (cells_only cells volumes) ∷ field_table (cells_only cells volumes) masses
    ∷ mesh_values old_ceiling (cells_only cells volumes) ∷ field_values (cells_only cells volumes) masses ∷ [])

unfoldable pub old_field_judged : ℕ → List ℕ → List ℕ → ℕ → Verdict
old_field_judged cells volumes bs masses = old_field_read cells bs run_cells and_then long 5 cells masses and_then old_cells_verdict cells volumes (old_masses_in bs cells)

unfoldable pub old_step_judged : Mesh → List ℕ → List ℕ → Verdict
old_step_judged M masses bs = old_step_read M.cells M.faces M.seconds bs run_faces run_faces run_cells
    and_then in_turn (causes_within old_ceiling M masses (old_step_in M bs))

-- "Tables lent to a step", the host's call: the three records, and last the bytes for the next field record.
module _ (mesh field step : List ℕ) where
  unfoldable pub old_host_verdict : ℕ → Verdict
  old_host_verdict room = old_mesh_judged mesh run_cells run_faces run_faces run_faces run_faces
      and_then old_field_judged (cells_in mesh) (old_mesh_in mesh).volumes field run_cells
      and_then old_step_judged (old_mesh_in mesh) (old_masses_in field (cells_in mesh)) step and_then bytes_long (length_of (old_field_shape (cells_in mesh))) room

  abbrev pub old_next_record : List ℕ
  old_next_record = record_of (old_field_shape (cells_in mesh))
      (field_value 2 (cells_in mesh) (table (cells_in mesh) (next
      (input_of (old_mesh_in mesh) (old_masses_in field (cells_in mesh)) (old_step_in (old_mesh_in mesh) step)))))

  unfoldable pub old_host_bytes : List ℕ → List ℕ
  old_host_bytes bytes = granted (old_host_verdict (length bytes)) (over old_next_record bytes) bytes
