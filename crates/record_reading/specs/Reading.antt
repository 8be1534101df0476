-- Document 01, "Causes", of reading: what reading a record gives, and what it refuses. Document 02, S-6: releases, and the kind of a step.
use Rattle.std.specs.Prelude.{ℕ, ◌*◌, Bool, not, ◌&&◌, List, [], ◌∷◌, ◌++◌, length, eqb, ℤ}
use Rattle.lists.specs.Table.{table}
use Rattle.signed.specs.Sign.{with_sign}
use Rattle.model.specs.Mesh.{Mesh, mesh_of}
use Rattle.model.specs.Causes.{Outcome, accepted, Verdict, ◌and_then◌, in_turn, each, long, mesh_long}
use Rattle.record_sections.specs.Sections.{Section, place, value_in, column_in}
use Rattle.record_layouts.specs.Layouts.{value_bits, mesh_zero_bits, step_zero_bits, mesh_head_bits, step_head_bits, Column, volume_column, first_column, second_column, share_column, reach_column, mass_column, sign_column, size_column, outside_column, release_column, mesh_shape, field_shape, step_head, flux_section, outside_section, step_shape, mesh_bits, step_bits, mesh_length, field_length, step_length}
use Rattle.record_heads.specs.Heads.{kind_in, width_in, cells_in, faces_in, has_length, mesh_head_verdict, field_head_verdict, step_head_verdict}
use Rattle.record_zeros.specs.Zeros.{zero_bit_good, minus_zero}
use Rattle.record_layouts.specs.declared.Width.{Width}
use Rattle.record_reading.specs.declared.MeshCounts.{MeshCounts}

-- A step up to its releases: what stands there rests on the width of the kind, and not on the cells.
abbrev pub water_shape : (kind faces : ℕ) → List ℕ → List Section
water_shape kind faces seconds = step_head ∷ flux_section kind faces ∷ outside_section faces seconds ∷ []

-- the entries of a column
abbrev pub column_of : List ℕ → List Section → Column → List ℕ
column_of bs S c = column_in bs S c.0 c.1

-- Values: reading does not judge them. Each is the number that the bits at its place spell; places count from the record's first bit.
module _ (bs : List ℕ) where
  abbrev pub shape_in : List Section
  shape_in = mesh_shape (kind_in bs) (cells_in bs) (faces_in bs)

  -- a mesh: section 1 has a row for each cell, section 2 one for each face
  unfoldable pub volumes_in : List ℕ
  volumes_in = column_of bs shape_in volume_column

  unfoldable pub firsts_in : List ℕ
  firsts_in = column_of bs shape_in first_column

  unfoldable pub seconds_in : List ℕ
  seconds_in = column_of bs shape_in second_column

  unfoldable pub shares_in : List ℕ
  shares_in = column_of bs shape_in share_column

  unfoldable pub reaches_in : List ℕ
  reaches_in = column_of bs shape_in reach_column

  abbrev pub counts_in : MeshCounts
  counts_in = record { cells = cells_in bs; faces = faces_in bs; width = width_in bs }

  abbrev pub mesh_in : Mesh
  mesh_in = mesh_of (cells_in bs) (faces_in bs) volumes_in firsts_in seconds_in shares_in reaches_in

  -- a field
  unfoldable pub masses_in : ℕ → List ℕ
  masses_in cells = column_of bs (field_shape (kind_in bs) cells) mass_column

  -- a step: the sign and the size of each face's U stand before the outside values, and do not rest on the seconds
  abbrev pub minus_in : ℕ → ℕ → Bool
  minus_in faces f = eqb (value_in bs (step_head ∷ flux_section (kind_in bs) faces ∷ []) sign_column.0 sign_column.1 f) 1

  abbrev pub size_in : ℕ → ℕ → ℕ
  size_in faces f = value_in bs (step_head ∷ flux_section (kind_in bs) faces ∷ []) size_column.0 size_column.1 f

  unfoldable pub fluxes_in : ℕ → List ℤ
  fluxes_in faces = table faces (λ f. with_sign (minus_in faces f) (size_in faces f))

  -- outside values away from the rim read 0: there is no row
  abbrev pub outside_place : ℕ → List ℕ → ℕ → ℕ
  outside_place faces seconds f = place (water_shape (kind_in bs) faces seconds) outside_column.0 outside_column.1 f

  unfoldable pub outsides_in : ℕ → List ℕ → List ℕ
  outsides_in faces seconds = column_of bs (water_shape (kind_in bs) faces seconds) outside_column

  -- S-6: the shape of the kind that the head says; in kind 3 the releases read 0, for they have no bits
  abbrev pub step_shape_in : (cells faces : ℕ) → List ℕ → List Section
  step_shape_in cells faces seconds = step_shape (kind_in bs) cells faces seconds

  unfoldable pub releases_in : (cells faces : ℕ) → List ℕ → List ℕ
  releases_in cells faces seconds = column_of bs (step_shape_in cells faces seconds) release_column

-- Cause 12, by the bit at i: the zero bits, and in a step the minus with size 0.
unfoldable pub mesh_bit_good : List ℕ → ℕ → Bool
mesh_bit_good bs i = zero_bit_good bs mesh_zero_bits mesh_head_bits (mesh_bits (kind_in bs) (cells_in bs) (faces_in bs)) i

unfoldable pub step_bit_good : List ℕ → (cells faces : ℕ) → List ℕ → ℕ → Bool
step_bit_good bs cells faces seconds i = zero_bit_good bs step_zero_bits step_head_bits (step_bits (kind_in bs) cells faces seconds) i
    && not (minus_zero bs (value_bits (kind_in bs)) faces i)

-- The order of reading past the head: length 11, then 2, then 12: what a record whose head is fine is refused for, read into tables of so
-- many entries.
abbrev pub mesh_table_causes : List ℕ → (volumes firsts seconds shares reaches : ℕ) → List Verdict
mesh_table_causes bs volumes firsts seconds shares reaches =
    has_length bs (mesh_length (kind_in bs) (cells_in bs) (faces_in bs)) ∷ mesh_long (cells_in bs) (faces_in bs) volumes firsts seconds shares reaches

abbrev pub mesh_body_causes : List ℕ → (volumes firsts seconds shares reaches : ℕ) → List Verdict
mesh_body_causes bs volumes firsts seconds shares reaches =
    mesh_table_causes bs volumes firsts seconds shares reaches ++ (each 12 (8 * length bs) (mesh_bit_good bs) ∷ [])

unfoldable pub mesh_body_verdict : List ℕ → (volumes firsts seconds shares reaches : ℕ) → Verdict
mesh_body_verdict bs volumes firsts seconds shares reaches = in_turn (mesh_body_causes bs volumes firsts seconds shares reaches)

-- a field has no zero bits
abbrev pub field_body_causes : ℕ → List ℕ → ℕ → List Verdict
field_body_causes cells bs masses = has_length bs (field_length (kind_in bs) cells) ∷ long 5 cells masses ∷ []

unfoldable pub field_body_verdict : ℕ → List ℕ → ℕ → Verdict
field_body_verdict cells bs masses = in_turn (field_body_causes cells bs masses)

-- the releases are table 14, in kind 3 too
abbrev pub step_table_causes : (cells faces : ℕ) → List ℕ → List ℕ → (fluxes outsides releases : ℕ) → List Verdict
step_table_causes cells faces seconds bs fluxes outsides releases =
    has_length bs (step_length (kind_in bs) cells faces seconds)
    ∷ long 6 faces fluxes
    ∷ long 7 faces outsides
    ∷ long 14 cells releases
    ∷ []

abbrev pub step_body_causes : (cells faces : ℕ) → List ℕ → List ℕ → (fluxes outsides releases : ℕ) → List Verdict
step_body_causes cells faces seconds bs fluxes outsides releases =
    step_table_causes cells faces seconds bs fluxes outsides releases ++ (each 12 (8 * length bs) (step_bit_good bs cells faces seconds) ∷ [])

unfoldable pub step_body_verdict : (cells faces : ℕ) → List ℕ → List ℕ → (fluxes outsides releases : ℕ) → Verdict
step_body_verdict cells faces seconds bs fluxes outsides releases = in_turn (step_body_causes cells faces seconds bs fluxes outsides releases)

-- What each reading comes to. Document 02, S-10: the reading of a mesh answers its width too, and those of a field and of a step are told it.
unfoldable pub mesh_read : ℕ → ℕ → List ℕ → ℕ → ℕ → ℕ → ℕ → ℕ → Outcome MeshCounts
mesh_read most_cells most_faces bs volumes firsts seconds shares reaches =
    mesh_head_verdict most_cells most_faces bs and_then mesh_body_verdict bs volumes firsts seconds shares reaches and_then accepted (counts_in bs)

-- the lent tables as a mesh whose counts are the most that are read
abbrev pub mesh_read_into : List ℕ → Mesh → Outcome MeshCounts
mesh_read_into bs lent = mesh_read lent.cells lent.faces bs (length lent.volumes) (length lent.firsts) (length lent.seconds)
    (length lent.shares) (length lent.reaches)

unfoldable pub field_read : Width → ℕ → List ℕ → ℕ → Verdict
field_read w cells bs masses = field_head_verdict w cells bs and_then field_body_verdict cells bs masses

-- the reading of a step answers its kind
unfoldable pub step_read : Width → (cells faces : ℕ) → List ℕ → List ℕ → (fluxes outsides releases : ℕ) → Outcome ℕ
step_read w cells faces seconds bs fluxes outsides releases =
    step_head_verdict w cells faces seconds bs and_then step_body_verdict cells faces seconds bs fluxes outsides releases and_then accepted (kind_in bs)
