-- Document 01, "Record layouts": the table of the three records as sections, the values that they hold, and how long each is. Document 02,
-- S-6: the step record of kind 4, which has a release for each cell besides; S-10: kinds 5 to 8, which have wider fields. Widths go by the kind.
use Rattle.std.specs.Prelude.{ℕ, ◌+◌, Bool, cond, ◌||◌, List, [], ◌∷◌, eqb, leb, get_or, ℤ, pos}
use Rattle.signed.specs.Sign.{size, is_negative}
use Rattle.model.specs.Mesh.{Mesh, volume, first, second, share, reach, rim}
use Rattle.record_bits.specs.Layout.{bytes_for}
use Rattle.record_sections.specs.Sections.{Section, per, per_that, once, those, marked, shape_bits, Values, always, values, record_of}
use Rattle.record_layouts.specs.declared.Width.{Width}
use Rattle.record_layouts.specs.declared.Width.TheVariants.{Narrow, Wide}
use Rattle.record_layouts.specs.declared.StepKind.{StepKind}
use Rattle.record_layouts.specs.declared.StepKind.TheVariants.{Water, Outfalls}

-- The kinds. Document 02, S-10: kinds 5 to 8 are kinds 1 to 4 with wider fields; the mesh record fixes the width of the records after it.
abbrev pub of_width : Width → ℕ → ℕ
of_width Narrow kind = kind
of_width Wide kind = 4 + kind

abbrev pub mesh_kind : Width → ℕ
mesh_kind w = of_width w 1

abbrev pub field_kind : Width → ℕ
field_kind w = of_width w 2

abbrev pub water_kind : Width → ℕ
water_kind w = of_width w 3

abbrev pub outfall_kind : Width → ℕ
outfall_kind w = of_width w 4

-- S-6, the kind that a reading of a step answers and that its writer is told, by its number.
abbrev pub kind_number : Width → StepKind → ℕ
kind_number w Water = water_kind w
kind_number w Outfalls = outfall_kind w

-- the width of a kind
abbrev pub width_of : ℕ → Width
width_of kind = cond (leb 5 kind) Wide Narrow

-- The widths of the head's fields: kind, cells, faces, and the zero bits that end a mesh's head and a step's.
abbrev pub kind_bits : ℕ
kind_bits = 4

abbrev pub cells_bits : ℕ
cells_bits = 12

abbrev pub faces_bits : ℕ
faces_bits = 13

abbrev pub mesh_zero_bits : ℕ
mesh_zero_bits = 3

abbrev pub step_zero_bits : ℕ
step_zero_bits = 15

-- The widths of the body's fields: first and second, s, the sign of U, the outside value.
abbrev pub end_bits : ℕ
end_bits = 12

abbrev pub share_bits : ℕ
share_bits = 8

abbrev pub sign_bits : ℕ
sign_bits = 1

abbrev pub outside_bits : ℕ
outside_bits = 20

-- S-10: V, K and the size of U have 12 bits, and 16 in the wide kinds; m has 32, and 40.
abbrev pub value_of : Width → ℕ
value_of Narrow = 12
value_of Wide = 16

abbrev pub mass_width : Width → ℕ
mass_width Narrow = 32
mass_width Wide = 40

unfoldable pub value_bits : ℕ → ℕ
value_bits kind = value_of (width_of kind)

unfoldable pub mass_bits : ℕ → ℕ
mass_bits kind = mass_width (width_of kind)

-- S-6: a release is as wide as m in kind 4 and in its wide form, 8, and has no bits in kinds 3 and 7.
unfoldable pub release_bits : ℕ → ℕ
release_bits kind = cond (eqb kind (outfall_kind Narrow) || eqb kind (outfall_kind Wide)) (mass_bits kind) 0

-- Heads in bits, and one face's part of a mesh and of a step.
abbrev pub mesh_head_bits : ℕ
mesh_head_bits = kind_bits + cells_bits + faces_bits + mesh_zero_bits

abbrev pub field_head_bits : ℕ
field_head_bits = kind_bits + cells_bits

abbrev pub step_head_bits : ℕ
step_head_bits = kind_bits + faces_bits + step_zero_bits

abbrev pub face_of : ℕ → ℕ
face_of value = end_bits + end_bits + share_bits + value

abbrev pub face_bits : ℕ → ℕ
face_bits kind = face_of (value_bits kind)

abbrev pub flux_bits : ℕ → ℕ
flux_bits kind = sign_bits + value_bits kind

-- Where a value of the table stands: its section, counted from the head, and its field in a row of that.
abbrev pub Column : Type 0
Column = ℕ × ℕ

-- A mesh: V for each cell; then first, second, s and K for each face.
abbrev pub volume_column : Column
volume_column = (1, 0)

abbrev pub first_column : Column
first_column = (2, 0)

abbrev pub second_column : Column
second_column = (2, 1)

abbrev pub share_column : Column
share_column = (2, 2)

abbrev pub reach_column : Column
reach_column = (2, 3)

abbrev pub mesh_head : Section
mesh_head = once (kind_bits ∷ cells_bits ∷ faces_bits ∷ mesh_zero_bits ∷ [])

abbrev pub mesh_body : (kind cells faces : ℕ) → List Section
mesh_body kind cells faces = per cells (value_bits kind ∷ []) ∷ per faces (end_bits ∷ end_bits ∷ share_bits ∷ value_bits kind ∷ []) ∷ []

abbrev pub mesh_shape : (kind cells faces : ℕ) → List Section
mesh_shape kind cells faces = mesh_head ∷ mesh_body kind cells faces

abbrev pub mesh_value : ℕ → Mesh → Values
mesh_value kind M = values
    ((always kind ∷ always M.cells ∷ always M.faces ∷ always 0 ∷ [])
    ∷ (volume M ∷ [])
    ∷ (first M ∷ second M ∷ share M ∷ reach M ∷ [])
    ∷ [])

-- A field: m for each cell.
abbrev pub mass_column : Column
mass_column = (1, 0)

abbrev pub field_head : Section
field_head = once (kind_bits ∷ cells_bits ∷ [])

abbrev pub field_body : (kind cells : ℕ) → List Section
field_body kind cells = per cells (mass_bits kind ∷ []) ∷ []

abbrev pub field_shape : (kind cells : ℕ) → List Section
field_shape kind cells = field_head ∷ field_body kind cells

abbrev pub mass_of : List ℕ → ℕ → ℕ
mass_of masses c = get_or masses c 0

abbrev pub field_value : (kind cells : ℕ) → List ℕ → Values
field_value kind cells masses = values
    ((always kind ∷ always cells ∷ [])
    ∷ (mass_of masses ∷ [])
    ∷ [])

-- A step: the sign of U, 1 for minus, and its size for each face; then the outside value for each rim face, in the order of the faces; then
-- the release for each cell. A rim face is one whose second is the rim: a step record needs no more of the mesh than its counts and its seconds.
abbrev pub is_rim : List ℕ → ℕ → Bool
is_rim seconds f = marked rim seconds f

abbrev pub sign_column : Column
sign_column = (1, 0)

abbrev pub size_column : Column
size_column = (1, 1)

abbrev pub outside_column : Column
outside_column = (2, 0)

abbrev pub release_column : Column
release_column = (3, 0)

-- how many rim faces there are below face n
abbrev pub rim_faces : List ℕ → ℕ → ℕ
rim_faces seconds n = those (is_rim seconds) n

abbrev pub step_head : Section
step_head = once (kind_bits ∷ faces_bits ∷ step_zero_bits ∷ [])

abbrev pub flux_section : (kind faces : ℕ) → Section
flux_section kind faces = per faces (sign_bits ∷ value_bits kind ∷ [])

abbrev pub outside_section : ℕ → List ℕ → Section
outside_section faces seconds = per_that faces (is_rim seconds) (outside_bits ∷ [])

abbrev pub release_section : (kind cells : ℕ) → Section
release_section kind cells = per cells (release_bits kind ∷ [])

abbrev pub step_body : (kind cells faces : ℕ) → List ℕ → List Section
step_body kind cells faces seconds = flux_section kind faces ∷ outside_section faces seconds ∷ release_section kind cells ∷ []

abbrev pub step_shape : (kind cells faces : ℕ) → List ℕ → List Section
step_shape kind cells faces seconds = step_head ∷ step_body kind cells faces seconds

abbrev pub sign_of : List ℤ → ℕ → ℕ
sign_of fluxes f = cond (is_negative (get_or fluxes f (pos 0))) 1 0

abbrev pub size_of : List ℤ → ℕ → ℕ
size_of fluxes f = size (get_or fluxes f (pos 0))

abbrev pub outside_of : List ℕ → ℕ → ℕ
outside_of outsides f = get_or outsides f 0

abbrev pub release_of : List ℕ → ℕ → ℕ
release_of releases c = get_or releases c 0

abbrev pub step_value : (kind faces : ℕ) → List ℤ → List ℕ → List ℕ → Values
step_value kind faces fluxes outsides releases = values
    ((always kind ∷ always faces ∷ always 0 ∷ [])
    ∷ (sign_of fluxes ∷ size_of fluxes ∷ [])
    ∷ (outside_of outsides ∷ [])
    ∷ (release_of releases ∷ [])
    ∷ [])

-- The bytes of each record.
unfoldable pub mesh_record : ℕ → Mesh → List ℕ
mesh_record kind M = record_of (mesh_shape kind M.cells M.faces) (mesh_value kind M)

unfoldable pub field_record : (kind cells : ℕ) → List ℕ → List ℕ
field_record kind cells masses = record_of (field_shape kind cells) (field_value kind cells masses)

unfoldable pub step_record : (kind cells faces : ℕ) → List ℕ → List ℤ → List ℕ → List ℕ → List ℕ
step_record kind cells faces seconds fluxes outsides releases = record_of (step_shape kind cells faces seconds) (step_value kind faces fluxes outsides releases)

-- How many bits the fields of each record have, and how many bytes it is long: zero bits follow up to a whole byte.
abbrev pub mesh_bits : (kind cells faces : ℕ) → ℕ
mesh_bits kind cells faces = shape_bits (mesh_shape kind cells faces)

abbrev pub field_bits : (kind cells : ℕ) → ℕ
field_bits kind cells = shape_bits (field_shape kind cells)

abbrev pub step_bits : (kind cells faces : ℕ) → List ℕ → ℕ
step_bits kind cells faces seconds = shape_bits (step_shape kind cells faces seconds)

unfoldable pub mesh_length : (kind cells faces : ℕ) → ℕ
mesh_length kind cells faces = bytes_for (mesh_bits kind cells faces)

unfoldable pub field_length : (kind cells : ℕ) → ℕ
field_length kind cells = bytes_for (field_bits kind cells)

unfoldable pub step_length : (kind cells faces : ℕ) → List ℕ → ℕ
step_length kind cells faces seconds = bytes_for (step_bits kind cells faces seconds)
