-- Document 01, "Causes", of reading: what a record's head says, what it is refused for, and how many bytes the record needs. Document 02, S-6:
-- the head of a step says one of two kinds. S-10: that of a mesh says one of two widths, and the records after it are expected to have its width.
use Rattle.std.specs.Prelude.{ℕ, ◌+◌, min, Bool, ◌||◌, List, [], ◌∷◌, length, eqb, leb, Result, Ok, Err}
use Rattle.model.specs.Mesh.{max_cells, max_faces}
use Rattle.model.specs.Causes.{Outcome, accepted, refused, Verdict, ◌and_then◌, in_turn, need, between, counts_within, long}
use Rattle.model.specs.Answers.{told}
use Rattle.record_bits.specs.Field.{bits_at}
use Rattle.record_bits.specs.Layout.{bytes_for}
use Rattle.record_layouts.specs.Layouts.{mesh_kind, field_kind, water_kind, outfall_kind, width_of, kind_bits, cells_bits, faces_bits, mesh_head_bits, field_head_bits, step_head_bits, mesh_length, field_length, step_length}
use Rattle.record_layouts.specs.declared.Width.{Width}
use Rattle.record_layouts.specs.declared.Width.TheVariants.{Narrow, Wide}
use Rattle.record_heads.specs.declared.MeshLength.{MeshLength}
use Rattle.model.specs.declared.Refusal.{Refusal}

-- The kind, and the counts in the head: of a mesh, of a field and of a step.
module _ (bs : List ℕ) where
  abbrev pub kind_in : ℕ
  kind_in = bits_at bs 0 kind_bits

  -- S-10: the width that the kind has
  abbrev pub width_in : Width
  width_in = width_of kind_in

  abbrev pub cells_in : ℕ
  cells_in = bits_at bs kind_bits cells_bits

  abbrev pub faces_in : ℕ
  faces_in = bits_at bs (kind_bits + cells_bits) faces_bits

  abbrev pub step_faces_in : ℕ
  step_faces_in = bits_at bs kind_bits faces_bits

-- Cause 11, a record that is not as long as it should be, and cause 13, another kind at place 0 or another count at place 1.
abbrev pub has_head : List ℕ → ℕ → Verdict
has_head bs bits = need 11 0 (leb (bytes_for bits) (length bs))

abbrev pub has_length : List ℕ → ℕ → Verdict
has_length bs n = need 11 0 (eqb (length bs) n)

abbrev pub has_kind : List ℕ → ℕ → Verdict
has_kind bs kind = need 13 0 (eqb (kind_in bs) kind)

abbrev pub is_mesh_kind : ℕ → Bool
is_mesh_kind kind = eqb kind (mesh_kind Narrow) || eqb kind (mesh_kind Wide)

abbrev pub has_mesh_kind : List ℕ → Verdict
has_mesh_kind bs = need 13 0 (is_mesh_kind (kind_in bs))

abbrev pub is_step_kind : Width → ℕ → Bool
is_step_kind w kind = eqb kind (water_kind w) || eqb kind (outfall_kind w)

abbrev pub has_step_kind : Width → List ℕ → Verdict
has_step_kind w bs = need 13 0 (is_step_kind w (kind_in bs))

abbrev pub has_count : ℕ → ℕ → Verdict
has_count count expected = need 13 1 (eqb count expected)

-- The order of reading up to the head: too short for its head 11, then 13, then 1. A caller may set lower limits of a mesh than the paper's.
abbrev pub mesh_head_causes : ℕ → ℕ → List ℕ → List Verdict
mesh_head_causes most_cells most_faces bs =
    has_head bs mesh_head_bits ∷ has_mesh_kind bs
    ∷ counts_within (min most_cells max_cells) (min most_faces max_faces) (cells_in bs) (faces_in bs)
    ∷ []

unfoldable pub mesh_head_verdict : ℕ → ℕ → List ℕ → Verdict
mesh_head_verdict most_cells most_faces bs = in_turn (mesh_head_causes most_cells most_faces bs)

abbrev pub field_head_causes : Width → ℕ → List ℕ → List Verdict
field_head_causes w cells bs =
    has_head bs field_head_bits ∷ has_kind bs (field_kind w) ∷ has_count (cells_in bs) cells
    ∷ need 1 0 (between 1 max_cells cells)
    ∷ []

unfoldable pub field_head_verdict : Width → ℕ → List ℕ → Verdict
field_head_verdict w cells bs = in_turn (field_head_causes w cells bs)

-- A step's length rests on the cells and the seconds, so that both are tested before that length: the cells by 1, a table of seconds that is
-- too short by 2.
abbrev pub step_head_causes : Width → (cells faces : ℕ) → List ℕ → List ℕ → List Verdict
step_head_causes w cells faces seconds bs =
    has_head bs step_head_bits ∷ has_step_kind w bs ∷ has_count (step_faces_in bs) faces
    ∷ counts_within max_cells max_faces cells faces ∷ long 2 faces (length seconds)
    ∷ []

unfoldable pub step_head_verdict : Width → (cells faces : ℕ) → List ℕ → List ℕ → Verdict
step_head_verdict w cells faces seconds bs = in_turn (step_head_causes w cells faces seconds bs)

-- How many bytes a record needs, as its head and the mesh that it belongs to say. S-10: the head of a mesh says the width too.
unfoldable pub mesh_measured : ℕ → ℕ → List ℕ → Outcome MeshLength
mesh_measured most_cells most_faces bs = mesh_head_verdict most_cells most_faces bs
    and_then accepted (record { bytes = mesh_length (kind_in bs) (cells_in bs) (faces_in bs); width = width_in bs })

-- the bytes alone
abbrev pub bytes_of : Outcome MeshLength → Outcome ℕ
bytes_of (accepted n) = accepted n.bytes
bytes_of (refused i j) = refused i j

unfoldable pub mesh_needs : ℕ → ℕ → List ℕ → Outcome ℕ
mesh_needs most_cells most_faces bs = bytes_of (mesh_measured most_cells most_faces bs)

unfoldable pub field_needs : Width → ℕ → List ℕ → Outcome ℕ
field_needs w cells bs = field_head_verdict w cells bs and_then accepted (field_length (field_kind w) cells)

unfoldable pub step_needs : Width → (cells faces : ℕ) → List ℕ → List ℕ → Outcome ℕ
step_needs w cells faces seconds bs = step_head_verdict w cells faces seconds bs and_then accepted (step_length (kind_in bs) cells faces seconds)

-- What the answer of a length says.
abbrev pub length_said : Result ℕ Refusal → Outcome ℕ
length_said (Ok n) = accepted n
length_said (Err r) = told r

abbrev pub mesh_length_said : Result MeshLength Refusal → Outcome MeshLength
mesh_length_said (Ok n) = accepted n
mesh_length_said (Err r) = told r
