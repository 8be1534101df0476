-- Where the columns of each record stand, in its body and in the whole record, and how large a record is.
use Prim.Native.Nat.{ℕ, ◌+◌, ◌*◌, ◌≤◌}
use mathlib.Core.Path.{◌≡◌, refl}
use mathlib.Core.Bool.{Bool, true, false, cond, ◌||◌}
use mathlib.Core.List.{List, [], ◌∷◌}
use native.Mathlib.Nat.{add-zero, mul-le-mul, le_trans}
use native.Mathlib.Omega.{arith}
use lib.Dec.{eqb}
use Rattle.model.specs.Mesh.{max_cells, max_faces}
use Rattle.record_sections.specs.Sections.{place}
use Rattle.record_sections.proofs.Columns.{those-le}
use Rattle.record_sections.proofs.Bodies.{Column, column-after}
use Rattle.record_layouts.specs.declared.Width.{Width}
use Rattle.record_layouts.specs.declared.Width.TheVariants.{Narrow, Wide}
use Rattle.record_layouts.specs.declared.StepKind.{StepKind}
use Rattle.record_layouts.specs.declared.StepKind.TheVariants.{Water, Outfalls}
use Rattle.record_layouts.specs.Layouts.{mesh_kind, field_kind, kind_number, width_of, value_of, mass_width, outfall_kind, kind_bits, cells_bits, faces_bits, mesh_zero_bits, step_zero_bits, end_bits, share_bits, sign_bits, outside_bits, value_bits, mass_bits, release_bits, mesh_head_bits, field_head_bits, step_head_bits, face_bits, flux_bits, is_rim, rim_faces, mesh_head, mesh_body, mesh_shape, field_head, field_body, field_shape, step_head, step_body, step_shape, mesh_bits, field_bits, step_bits}

-- no more faces are at the rim than there are
pub rim-le : (seconds : List ℕ) (n : ℕ) → rim_faces seconds n ≤ n
rim-le seconds n = those-le (is_rim seconds) n

-- where a step's outside values begin, where its releases do, and the most bits that it has
abbrev pub rim_place : (kind faces : ℕ) → ℕ
rim_place kind faces = step_head_bits + faces * flux_bits kind

abbrev pub release_place : (kind faces : ℕ) → List ℕ → ℕ
release_place kind faces seconds = rim_place kind faces + rim_faces seconds faces * outside_bits

abbrev pub step_most : ℕ
step_most = step_head_bits + max_faces * (sign_bits + value_of Wide) + max_faces * outside_bits + max_cells * mass_width Wide

-- those of a mesh and of a field
abbrev pub mesh_most : ℕ
mesh_most = mesh_head_bits + max_cells * value_of Wide + max_faces * (end_bits + end_bits + share_bits + value_of Wide)

abbrev pub field_most : ℕ
field_most = field_head_bits + max_cells * mass_width Wide

-- no field is wider than in the wide kinds
pub value-of-most : (w : Width) → value_of w ≤ value_of Wide
value-of-most Narrow = omega arith
value-of-most Wide = omega arith

pub mass-of-most : (w : Width) → mass_width w ≤ mass_width Wide
mass-of-most Narrow = omega arith
mass-of-most Wide = omega arith

pub value-most : (kind : ℕ) → value_bits kind ≤ value_of Wide
unfolding value_bits
value-most kind = value-of-most (width_of kind)

pub mass-most : (kind : ℕ) → mass_bits kind ≤ mass_width Wide
unfolding mass_bits
mass-most kind = mass-of-most (width_of kind)

-- the widths of a kind that is told by its width
pub mesh-value : (w : Width) → value_bits (mesh_kind w) ≡ value_of w
unfolding value_bits
mesh-value Narrow = refl
mesh-value Wide = refl

pub field-mass : (w : Width) → mass_bits (field_kind w) ≡ mass_width w
unfolding mass_bits
field-mass Narrow = refl
field-mass Wide = refl

pub step-value : (w : Width) (kind : StepKind) → value_bits (kind_number w kind) ≡ value_of w
unfolding value_bits
step-value Narrow Water = refl
step-value Narrow Outfalls = refl
step-value Wide Water = refl
step-value Wide Outfalls = refl

-- a mesh: its body's columns, each from a place p on
module _ (kind cells faces : ℕ) where
  pub volumes-at : Column (mesh_body kind cells faces) 0 0 cells 0 (value_bits kind) (value_bits kind)
  volumes-at = record { widths = value_bits kind ∷ []; every = refl; among = omega arith; wide = refl; apart = omega arith; begins = refl }

  pub firsts_at : {p : ℕ} → p ≡ cells * (value_bits kind) → Column (mesh_body kind cells faces) 1 0 faces p (face_bits kind) end_bits
  firsts_at e = record {
    widths = end_bits ∷ end_bits ∷ share_bits ∷ value_bits kind ∷ [];
    every = refl;
    among = omega arith;
    wide = refl;
    apart = omega arith;
    begins = omega (arith, e);
  }

  pub seconds-at : {p : ℕ} → p ≡ cells * (value_bits kind) + end_bits → Column (mesh_body kind cells faces) 1 1 faces p (face_bits kind) end_bits
  seconds-at e = record {
    widths = end_bits ∷ end_bits ∷ share_bits ∷ value_bits kind ∷ [];
    every = refl;
    among = omega arith;
    wide = refl;
    apart = omega arith;
    begins = omega (arith, e);
  }

  pub shares_at : {p : ℕ} → p ≡ cells * (value_bits kind) + end_bits + end_bits → Column (mesh_body kind cells faces) 1 2 faces p (face_bits kind) share_bits
  shares_at e = record {
    widths = end_bits ∷ end_bits ∷ share_bits ∷ value_bits kind ∷ [];
    every = refl;
    among = omega arith;
    wide = refl;
    apart = omega arith;
    begins = omega (arith, e);
  }

  pub reaches-at : {p : ℕ} → p ≡ cells * (value_bits kind) + end_bits + end_bits + share_bits
      → Column (mesh_body kind cells faces) 1 3 faces p (face_bits kind) (value_bits kind)
  reaches-at e = record {
    widths = end_bits ∷ end_bits ∷ share_bits ∷ value_bits kind ∷ [];
    every = refl;
    among = omega arith;
    wide = refl;
    apart = omega arith;
    begins = omega (arith, e);
  }

  -- its head's fields
  pub mesh-kind-in : Column (mesh_shape kind cells faces) 0 0 1 0 mesh_head_bits kind_bits
  mesh-kind-in = record {
    widths = kind_bits ∷ cells_bits ∷ faces_bits ∷ mesh_zero_bits ∷ [];
    every = refl;
    among = omega arith;
    wide = refl;
    apart = refl;
    begins =
        refl;
  }

  pub mesh-cells-in : Column (mesh_shape kind cells faces) 0 1 1 kind_bits mesh_head_bits cells_bits
  mesh-cells-in = record {
    widths = kind_bits ∷ cells_bits ∷ faces_bits ∷ mesh_zero_bits ∷ [];
    every = refl;
    among = omega arith;
    wide = refl;
    apart = refl;
    begins =
        refl;
  }

  pub mesh-faces-in : Column (mesh_shape kind cells faces) 0 2 1 (kind_bits + cells_bits) mesh_head_bits faces_bits
  mesh-faces-in = record {
    widths = kind_bits ∷ cells_bits ∷ faces_bits ∷ mesh_zero_bits ∷ [];
    every = refl;
    among = omega arith;
    wide = refl;
    apart = refl;
    begins =
        refl;
  }

  pub mesh-zeros-in : Column (mesh_shape kind cells faces) 0 3 1 (kind_bits + cells_bits + faces_bits) mesh_head_bits mesh_zero_bits
  mesh-zeros-in = record {
    widths = kind_bits ∷ cells_bits ∷ faces_bits ∷ mesh_zero_bits ∷ [];
    every = refl;
    among = omega arith;
    wide = refl;
    apart = refl;
    begins =
        refl;
  }

  pub mesh-most : cells ≤ max_cells → faces ≤ max_faces → mesh_bits kind cells faces ≤ mesh_most
  mesh-most l m = omega (arith, mul-le-mul l (value-most kind), mul-le-mul m (value-most kind))

  pub mesh-some : mesh_head_bits ≤ mesh_bits kind cells faces
  mesh-some = omega arith

-- the body's columns in the whole record
module _ (kind cells faces : ℕ) where
  pub volumes-in : Column (mesh_shape kind cells faces) 1 0 cells mesh_head_bits (value_bits kind) (value_bits kind)
  volumes-in = column-after mesh_head mesh_head_bits (volumes-at kind cells faces) refl

  pub firsts_in : {p : ℕ} → p ≡ mesh_head_bits + cells * (value_bits kind) → Column (mesh_shape kind cells faces) 2 0 faces p (face_bits kind) end_bits
  firsts_in {p} e = column-after mesh_head p (firsts_at kind cells faces refl) (omega (arith, e))

  pub seconds_in : {p : ℕ} → p ≡ mesh_head_bits + cells * (value_bits kind) + end_bits → Column (mesh_shape kind cells faces) 2 1 faces p (face_bits kind) end_bits
  seconds_in {p} e = column-after mesh_head p (seconds-at kind cells faces refl) (omega (arith, e))

  pub shares_in : {p : ℕ} → p ≡ mesh_head_bits + cells * (value_bits kind) + end_bits + end_bits
      → Column (mesh_shape kind cells faces) 2 2 faces p (face_bits kind) share_bits
  shares_in {p} e = column-after mesh_head p (shares_at kind cells faces refl) (omega (arith, e))

  pub reaches_in : {p : ℕ} → p ≡ mesh_head_bits + cells * (value_bits kind) + end_bits + end_bits + share_bits
      → Column (mesh_shape kind cells faces) 2 3 faces p (face_bits kind) (value_bits kind)
  reaches_in {p} e = column-after mesh_head p (reaches-at kind cells faces refl) (omega (arith, e))

-- a field
module _ (kind cells : ℕ) where
  pub masses-at : Column (field_body kind cells) 0 0 cells 0 (mass_bits kind) (mass_bits kind)
  masses-at = record { widths = mass_bits kind ∷ []; every = refl; among = omega arith; wide = refl; apart = omega arith; begins = refl }

  pub field-kind-in : Column (field_shape kind cells) 0 0 1 0 field_head_bits kind_bits
  field-kind-in = record { widths = kind_bits ∷ cells_bits ∷ []; every = refl; among = omega arith; wide = refl; apart = refl; begins = refl }

  pub field-cells-in : Column (field_shape kind cells) 0 1 1 kind_bits field_head_bits cells_bits
  field-cells-in = record { widths = kind_bits ∷ cells_bits ∷ []; every = refl; among = omega arith; wide = refl; apart = refl; begins = refl }

  pub masses-in : Column (field_shape kind cells) 1 0 cells field_head_bits (mass_bits kind) (mass_bits kind)
  masses-in = column-after field_head field_head_bits masses-at refl

  pub field-most : cells ≤ max_cells → field_bits kind cells ≤ field_most
  field-most l = omega (arith, mul-le-mul l (mass-most kind))

  pub field-some : field_head_bits ≤ field_bits kind cells
  field-some = omega arith

-- a release has at most the bits of a mass, so all of them have at most those of a field
pub release-wide : (kind : ℕ) → release_bits kind ≤ mass_bits kind
unfolding release_bits
release-wide kind = go (eqb kind (outfall_kind Narrow) || eqb kind (outfall_kind Wide))
  where
    go : (b : Bool) → cond b (mass_bits kind) 0 ≤ mass_bits kind
    go true = omega arith
    go false = omega arith

pub releases-most : (kind : ℕ) {cells : ℕ} → cells ≤ max_cells → cells * release_bits kind ≤ max_cells * mass_width Wide
releases-most kind l = mul-le-mul l (le_trans (release-wide kind) (mass-most kind))

-- a step
module _ (kind cells faces : ℕ) (seconds : List ℕ) where
  pub signs-at : Column (step_body kind cells faces seconds) 0 0 faces 0 (flux_bits kind) sign_bits
  signs-at = record { widths = sign_bits ∷ value_bits kind ∷ []; every = refl; among = omega arith; wide = refl; apart = omega arith; begins = refl }

  pub sizes-at : Column (step_body kind cells faces seconds) 0 1 faces sign_bits (flux_bits kind) (value_bits kind)
  sizes-at = record { widths = sign_bits ∷ value_bits kind ∷ []; every = refl; among = omega arith; wide = refl; apart = omega arith; begins = refl }

  pub outside-at : (f : ℕ) → place (step_body kind cells faces seconds) 1 0 f ≡ faces * flux_bits kind + rim_faces seconds f * outside_bits
  outside-at f = omega arith

  pub releases-at : {p : ℕ} → p ≡ faces * flux_bits kind + rim_faces seconds faces * outside_bits
      → Column (step_body kind cells faces seconds) 2 0 cells p (release_bits kind) (release_bits kind)
  releases-at e = record {
    widths = release_bits kind ∷ [];
    every = refl;
    among = omega arith;
    wide = refl;
    apart = add-zero (release_bits kind);
    begins =
        omega (arith, e);
  }

  pub step-kind-in : Column (step_shape kind cells faces seconds) 0 0 1 0 step_head_bits kind_bits
  step-kind-in = record { widths = kind_bits ∷ faces_bits ∷ step_zero_bits ∷ []; every = refl; among = omega arith; wide = refl; apart = refl; begins = refl }

  pub step-faces-in : Column (step_shape kind cells faces seconds) 0 1 1 kind_bits step_head_bits faces_bits
  step-faces-in = record { widths = kind_bits ∷ faces_bits ∷ step_zero_bits ∷ []; every = refl; among = omega arith; wide = refl; apart = refl; begins = refl }

  pub step-zeros-in : Column (step_shape kind cells faces seconds) 0 2 1 (kind_bits + faces_bits) step_head_bits step_zero_bits
  step-zeros-in = record { widths = kind_bits ∷ faces_bits ∷ step_zero_bits ∷ []; every = refl; among = omega arith; wide = refl; apart = refl; begins = refl }

  pub signs-in : Column (step_shape kind cells faces seconds) 1 0 faces step_head_bits (flux_bits kind) sign_bits
  signs-in = column-after step_head step_head_bits signs-at refl

  pub sizes-in : Column (step_shape kind cells faces seconds) 1 1 faces (step_head_bits + sign_bits) (flux_bits kind) (value_bits kind)
  sizes-in = column-after step_head (step_head_bits + sign_bits) sizes-at refl

  pub outside-in : (f : ℕ) → place (step_shape kind cells faces seconds) 2 0 f ≡ rim_place kind faces + rim_faces seconds f * outside_bits
  outside-in f = omega arith

  pub releases-in : {p : ℕ} → p ≡ release_place kind faces seconds
      → Column (step_shape kind cells faces seconds) 3 0 cells p (release_bits kind) (release_bits kind)
  releases-in {p} e = column-after step_head p (releases-at refl) (omega (arith, e))

  pub step_is : step_bits kind cells faces seconds ≡ release_place kind faces seconds + cells * release_bits kind
  step_is = let e : cells * (release_bits kind + 0) ≡ cells * release_bits kind = rw (add-zero (release_bits kind)) in omega arith

  pub step-most : cells ≤ max_cells → faces ≤ max_faces → step_bits kind cells faces seconds ≤ step_most
  step-most l m = omega (arith, step_is, releases-most kind l, rim-le seconds faces, mul-le-mul m (value-most kind))

  pub step-some : release_place kind faces seconds ≤ step_bits kind cells faces seconds
  step-some = omega (arith, step_is)
