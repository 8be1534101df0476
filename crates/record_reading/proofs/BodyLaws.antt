-- A record that passed its tests: its body holds what the tables are to take, and they then hold the record's columns.
use Prim.Native.Nat.{ℕ, suc, ◌*◌, ◌^◌, ◌≤◌, ◌<◌}
use mathlib.Core.Path.{◌≡◌, refl, ap, ◌∙◌}
use mathlib.Core.List.{List}
use native.Mathlib.Omega.{arith}
use lib.Dec.{eqb}
use lib.IntN.{ℤ, pos}
use lib.ListN.{length}
use Rattle.lists.specs.Table.{over}
use Rattle.lists.proofs.Tables.{table-cong}
use Rattle.signed.specs.Sign.{with_sign}
use Rattle.model.specs.Mesh.{Mesh, max_cells, max_faces}
use Rattle.model.specs.Meshes.{over_mesh, at_counts}
use Rattle.record_bits.proofs.Layouts.{bytes-hold, bytes_most}
use Rattle.record_sections.specs.Sections.{Section, shape_bits, value_in, column_in}
use Rattle.record_sections.proofs.Bodies.{body_of, body-length, body-value, body-column}
use Rattle.record_layouts.specs.Layouts.{mesh_head, mesh_body, field_head, field_body, step_head, step_body, mesh_bits, field_bits, step_bits}
use Rattle.record_heads.specs.Heads.{kind_in, cells_in, faces_in}
use Rattle.record_layouts.proofs.Layouts.{value-most, mesh-most, field-most, step-most}
use Rattle.record_reading.specs.Reading.{shape_in, volumes_in, firsts_in, seconds_in, shares_in, reaches_in, mesh_in, masses_in, step_shape_in}
use Rattle.record_bodies.specs.Bodies.{MeshRoom, body_mesh, StepRoom, StepFilled}
use Rattle.record_reading.proofs.ReadLaws.{MeshTablesSay, FieldTablesSay, StepTablesSay}

-- heads in bytes
abbrev pub mesh_head_bytes : ℕ
mesh_head_bytes = 4

abbrev pub field_head_bytes : ℕ
field_head_bytes = 2

abbrev pub step_head_bytes : ℕ
step_head_bytes = 4

-- a mesh
module _ (bs : List ℕ) where
  pub mesh-room : (lent : Mesh) → cells_in bs ≤ max_cells → faces_in bs ≤ max_faces
      → MeshTablesSay bs (length lent.volumes) (length lent.firsts) (length lent.seconds) (length lent.shares) (length lent.reaches)
      → (mesh_head_bytes ≤ length bs) × MeshRoom (kind_in bs) (body_of mesh_head_bytes bs) (at_counts (mesh_in bs) lent)
  mesh-room lent few_cells few_faces says =
      let end = mesh_bits (kind_in bs) (cells_in bs) (faces_in bs) in
      let held = bytes-hold end in
      let most = bytes_most end in
      let small = mesh-most (kind_in bs) (cells_in bs) (faces_in bs) few_cells few_faces in
      let same = says.same_length in
      let value = value-most (kind_in bs) in
      let body = body-length mesh_head_bytes bs in
      (omega arith, record { small = omega arith; holds = omega arith; long = says.mesh-long })

  -- the body's mesh is the record's
  column : (k j : ℕ) → column_in (body_of mesh_head_bytes bs) (mesh_body (kind_in bs) (cells_in bs) (faces_in bs)) k j ≡ column_in bs (shape_in bs) (suc k) j
  column k j = body-column mesh_head_bytes bs mesh_head (mesh_body (kind_in bs) (cells_in bs) (faces_in bs)) k j refl

  body-mesh : body_mesh (kind_in bs) (cells_in bs) (faces_in bs) (body_of mesh_head_bytes bs) ≡ mesh_in bs
  unfolding volumes_in firsts_in seconds_in shares_in reaches_in
  body-mesh = rw (column 0 0, column 1 0, column 1 1, column 1 2, column 1 3)

  -- whatever counts the tables are lent at
  pub mesh-filled : (lent M : Mesh) {left : Mesh} → left ≡ over_mesh (body_mesh (kind_in bs) (cells_in bs) (faces_in bs) (body_of mesh_head_bytes bs)) lent
      → at_counts M left ≡ over_mesh (mesh_in bs) (at_counts M lent)
  mesh-filled lent M e = ap (at_counts M) e ∙ ap (λ (N : Mesh). over_mesh N (at_counts M lent)) body-mesh

-- a field
module _ (cells : ℕ) (bs : List ℕ) where
  pub field_room : {m : ℕ} → cells ≤ max_cells → FieldTablesSay cells bs m
      → (field_head_bytes ≤ length bs) × ((8 * length (body_of field_head_bytes bs) < 2 ^ 64)
      × (shape_bits (field_body (kind_in bs) cells) ≤ 8 * length (body_of field_head_bytes bs)) × (cells ≤ m))
  field_room few says =
      let held = bytes-hold (field_bits (kind_in bs) cells) in
      let most = bytes_most (field_bits (kind_in bs) cells) in
      let small = field-most (kind_in bs) cells few in
      let same = says.same_length in
      let body = body-length field_head_bytes bs in
      (omega arith, (omega arith, omega arith, says.masses_long))

  pub field-filled : (ys : List ℕ) {zs : List ℕ} → zs ≡ over (column_in (body_of field_head_bytes bs) (field_body (kind_in bs) cells) 0 0) ys → zs
      ≡ over (masses_in bs cells) ys
  unfolding masses_in
  field-filled ys e = e ∙ ap (λ xs. over xs ys) (body-column field_head_bytes bs field_head (field_body (kind_in bs) cells) 0 0 refl)

-- a step
module _ (cells faces : ℕ) (seconds bs : List ℕ) where
  abbrev T : List Section
  T = step_body (kind_in bs) cells faces seconds

  pub step_room : {u x y : ℕ} → cells ≤ max_cells → faces ≤ max_faces → faces ≤ length seconds → StepTablesSay cells faces seconds bs u x y
      → (step_head_bytes ≤ length bs) × StepRoom (kind_in bs) cells faces seconds (body_of step_head_bytes bs) u x y
  step_room few_cells few_faces lent says =
      let end = step_bits (kind_in bs) cells faces seconds in
      let held = bytes-hold end in
      let most = bytes_most end in
      let small = step-most (kind_in bs) cells faces seconds few_cells few_faces in
      let same = says.same_length in
      let body = body-length step_head_bytes bs in (
        omega arith,
        record {
          small = omega arith;
          holds = omega arith;
          seconds_long = lent;
          fluxes_long = says.fluxes_long;
          outsides_long = says.outsides_long;
          releases_long = says.releases_long;
        },
      )

  pub step-filled : {u u' : List ℤ} {x x' y y' : List ℕ} → StepFilled faces (body_of step_head_bytes bs) T 0 u x y u' x' y'
      → StepFilled faces bs (step_shape_in bs cells faces seconds) 1 u x y u' x' y'
  step-filled {u} {u'} {x} {x'} {y} b = record {
    fluxes_full = b.fluxes_full ∙ ap (λ zs. over zs u) (table-cong (pos 0) faces _ _ (λ f l. flux f));
    outsides_full = b.outsides_full ∙ ap (λ xs. over xs x) (body-column step_head_bytes bs step_head T 1 0 refl);
    releases_full = b.releases_full ∙ ap (λ xs. over xs y) (body-column step_head_bytes bs step_head T 2 0 refl);
  }
    where
      flux : (f : ℕ) → with_sign (eqb (value_in (body_of step_head_bytes bs) T 0 0 f) 1) (value_in (body_of step_head_bytes bs) T 0 1 f)
          ≡ with_sign (eqb (value_in bs (step_shape_in bs cells faces seconds) 1 0 f) 1) (value_in bs (step_shape_in bs cells faces seconds) 1 1 f)
      flux f =
          ap (λ (s : ℕ). with_sign (eqb s 1) (value_in (body_of step_head_bytes bs) T 0 1 f)) (body-value step_head_bytes bs step_head T 0 0 f refl)
          ∙ ap (λ (n : ℕ). with_sign (eqb (value_in bs (step_shape_in bs cells faces seconds) 1 0 f) 1) n) (body-value step_head_bytes bs step_head T 0 1 f refl)
