-- Reading undoes packing and packing undoes reading, of the three records: instances of the laws of sections (`value-back`, `column-back`,
-- `record-again`).
use Prim.Native.Nat.{ℕ, zero, suc, ◌+◌, ◌-◌, ◌*◌, ◌/◌, ◌≤◌, ◌<◌}
use mathlib.Core.Path.{◌≡◌, refl, sym, ap, ◌∙◌}
use mathlib.Core.Logic.{inl, inr}
use mathlib.Core.Bool.{Bool, true, false, cond, not, ◌&&◌, true≢false}
use mathlib.Core.List.{List}
use native.Mathlib.Decide.{dec_lt}
use native.Mathlib.Nat.{mul-le-mul_right, suc-mul}
use native.Mathlib.Omega.{arith}
use borrow.Author.Tests.{not-true, ne_eqb}
use lib.Dec.{eqb}
use lib.IntN.{ℤ, pos, negsuc}
use lib.ListN.{length, get_or}
use Rattle.lists.specs.Table.{table, over}
use Rattle.lists.proofs.Tables.{get_d_over, table-cong}
use Rattle.signed.specs.Sign.{size, is_negative, with_sign}
use Rattle.signed.proofs.Laws.{size-with_sign, with_sign-of}
use Rattle.model.specs.Mesh.{Mesh}
use Rattle.model.specs.Meshes.{trimmed, over_mesh, at_counts}
use Rattle.record_bits.specs.Field.{bit_at, bits_at}
use Rattle.record_bits.specs.Layout.{bytes_for}
use Rattle.record_bits.proofs.Fields.{bits-lt, zero_field}
use Rattle.record_bits.proofs.Layouts.{bytes-hold}
use Rattle.record_sections.specs.Sections.{Section, Values, Has, rows_of, widths_of, has_row, section_in, shape_bits, place, fields_of, record_of, Fits, value_in, entry_in, column_in}
use Rattle.record_sections.proofs.Sections.{width-fields, length-record, value-back, column-back, record-again}
use Rattle.record_sections.proofs.Bodies.{column-has}
use Rattle.record_layouts.specs.Layouts.{mesh_zero_bits, step_zero_bits, sign_bits, value_bits, mass_bits, mass_width, width_of, flux_bits, mesh_head_bits, step_head_bits, is_rim, sign_of, size_of, outside_of, release_of, mass_of, mesh_shape, mesh_value, field_shape, field_value, step_shape, step_value, mesh_bits, field_bits, step_bits, mesh_record, field_record, step_record}
use Rattle.record_heads.specs.Heads.{kind_in, cells_in, faces_in, step_faces_in}
use Rattle.record_layouts.proofs.Layouts.{mesh-kind-in, mesh-cells-in, mesh-faces-in, mesh-zeros-in, mesh-some, field-kind-in, field-cells-in, step-kind-in, step-faces-in, step-zeros-in, signs-in, sizes-in, step-some}
use Rattle.record_zeros.specs.Zeros.{zero_bit_good, minus_zero}
use Rattle.record_zeros.proofs.ZeroLaws.{good-clear, zeros-good, minus-at, no_minus}
use Rattle.record_reading.specs.Reading.{shape_in, volumes_in, firsts_in, seconds_in, shares_in, reaches_in, mesh_in, masses_in, minus_in, size_in, fluxes_in, outsides_in, step_shape_in, water_shape, releases_in}
use Rattle.record_reading.specs.declared.MeshCounts.{MeshCounts}
use Rattle.record_layouts.specs.declared.Width.{Width}
use Rattle.record_layouts.specs.declared.Width.TheVariants.{Narrow, Wide}
use Rattle.record_writing.proofs.Accepting.{MeshPassed, FieldPassed, StepPassed}

-- a mesh that fits its record
module _ (kind : ℕ) (M : Mesh) (fits : Fits (mesh_shape kind M.cells M.faces) (mesh_value kind M)) where
  abbrev MS : List Section
  MS = mesh_shape kind M.cells M.faces

  pub mesh-kind-back : kind_in (mesh_record kind M) ≡ kind
  unfolding mesh_record
  mesh-kind-back = value-back MS (mesh_value kind M) fits 0 0 0 (column-has (mesh-kind-in kind M.cells M.faces) 0 (omega arith))

  pub mesh-cells-back : cells_in (mesh_record kind M) ≡ M.cells
  unfolding mesh_record
  mesh-cells-back = value-back MS (mesh_value kind M) fits 0 1 0 (column-has (mesh-cells-in kind M.cells M.faces) 0 (omega arith))

  pub mesh-faces-back : faces_in (mesh_record kind M) ≡ M.faces
  unfolding mesh_record
  mesh-faces-back = value-back MS (mesh_value kind M) fits 0 2 0 (column-has (mesh-faces-in kind M.cells M.faces) 0 (omega arith))

  mesh-zeros-back : bits_at (mesh_record kind M) (mesh_head_bits - mesh_zero_bits) mesh_zero_bits ≡ 0
  unfolding mesh_record
  mesh-zeros-back = value-back MS (mesh_value kind M) fits 0 3 0 (column-has (mesh-zeros-in kind M.cells M.faces) 0 (omega arith))

  mesh-shape-back : shape_in (mesh_record kind M) ≡ MS
  mesh-shape-back = rw (mesh-kind-back, mesh-cells-back, mesh-faces-back)

  pub mesh-record-length : length (mesh_record kind M) ≡ bytes_for (mesh_bits kind M.cells M.faces)
  unfolding mesh_record
  mesh-record-length = length-record MS (mesh_value kind M)

  pub mesh-bits-good : (i : ℕ) → zero_bit_good (mesh_record kind M) mesh_zero_bits mesh_head_bits (mesh_bits kind M.cells M.faces) i ≡ true
  unfolding mesh_record record_of
  mesh-bits-good = zeros-good (fields_of MS (mesh_value kind M)) mesh_zero_bits mesh_head_bits (shape_bits MS) (omega arith) (mesh-some kind M.cells M.faces)
      (width-fields MS (mesh_value kind M)) mesh-zeros-back

  -- each column, and with the counts the whole mesh
  column : (k j : ℕ) → j < length (widths_of (section_in MS k)) → column_in (mesh_record kind M) (shape_in (mesh_record kind M)) k j
      ≡ table (rows_of (section_in MS k)) (λ i. cond (has_row (section_in MS k) i) (mesh_value kind M k j i) 0)
  unfolding mesh_record
  column k j l = ap (λ T. column_in (mesh_record kind M) T k j) mesh-shape-back ∙ column-back MS (mesh_value kind M) fits k j l

  pub mesh-back : mesh_in (mesh_record kind M) ≡ trimmed M
  unfolding volumes_in firsts_in seconds_in shares_in reaches_in
  mesh-back = rw (
    column 1 0 (omega arith),
    column 2 0 (omega arith),
    column 2 1 (omega arith),
    column 2 2 (omega arith),
    column 2 3 (omega arith),
    mesh-cells-back,
    mesh-faces-back,
  )

-- a field
module _ (kind cells : ℕ) (masses : List ℕ) where
  pub field-record-length : length (field_record kind cells masses) ≡ bytes_for (field_bits kind cells)
  unfolding field_record
  field-record-length = length-record (field_shape kind cells) (field_value kind cells masses)

  module _ (fits : Fits (field_shape kind cells) (field_value kind cells masses)) where
    pub field-kind-back : kind_in (field_record kind cells masses) ≡ kind
    unfolding field_record
    field-kind-back = value-back (field_shape kind cells) (field_value kind cells masses) fits 0 0 0 (column-has (field-kind-in kind cells) 0 (omega arith))

    pub field-cells-back : cells_in (field_record kind cells masses) ≡ cells
    unfolding field_record
    field-cells-back = value-back (field_shape kind cells) (field_value kind cells masses) fits 0 1 0 (column-has (field-cells-in kind cells) 0 (omega arith))

    pub masses-back : masses_in (field_record kind cells masses) cells ≡ table cells (mass_of masses)
    unfolding masses_in field_record
    masses-back = ap (λ (k : ℕ). column_in (field_record kind cells masses) (field_shape k cells) 1 0) field-kind-back
        ∙ column-back (field_shape kind cells) (field_value kind cells masses) fits 1 0 (omega arith)

-- a sign of 0 or 1, and its size
sign-back : (b : Bool) → eqb (cond b 1 0) 1 ≡ b
sign-back true = refl
sign-back false = refl

no-minus-zero : (z : ℤ) → (eqb (cond (is_negative z) 1 0) 1 && eqb (size z) 0) ≡ false
no-minus-zero (pos n) = refl
no-minus-zero (negsuc n) = ne_eqb (suc n) 0 (λ e. omega arith)

-- a step, of either kind
module _ (kind cells faces : ℕ) (seconds : List ℕ) (fluxes : List ℤ) (outsides releases : List ℕ) where
  abbrev TS : List Section
  TS = step_shape kind cells faces seconds

  abbrev TV : Values
  TV = step_value kind faces fluxes outsides releases

  abbrev TR : List ℕ
  TR = step_record kind cells faces seconds fluxes outsides releases

  pub step-record-length : length TR ≡ bytes_for (step_bits kind cells faces seconds)
  unfolding step_record
  step-record-length = length-record TS TV

  module _ (fits : Fits (step_shape kind cells faces seconds) (step_value kind faces fluxes outsides releases)) where
    pub step-kind-back : kind_in TR ≡ kind
    unfolding step_record
    step-kind-back = value-back TS TV fits 0 0 0 (column-has (step-kind-in kind cells faces seconds) 0 (omega arith))

    pub step-faces-back : step_faces_in TR ≡ faces
    unfolding step_record
    step-faces-back = value-back TS TV fits 0 1 0 (column-has (step-faces-in kind cells faces seconds) 0 (omega arith))

    step-zeros-back : bits_at TR (step_head_bits - step_zero_bits) step_zero_bits ≡ 0
    unfolding step_record
    step-zeros-back = value-back TS TV fits 0 2 0 (column-has (step-zeros-in kind cells faces seconds) 0 (omega arith))

    sign_read : (f : ℕ) → f < faces → value_in TR TS 1 0 f ≡ sign_of fluxes f
    unfolding step_record
    sign_read f l = value-back TS TV fits 1 0 f (column-has (signs-in kind cells faces seconds) f l)

    size-read : (f : ℕ) → f < faces → value_in TR TS 1 1 f ≡ size_of fluxes f
    unfolding step_record
    size-read f l = value-back TS TV fits 1 1 f (column-has (sizes-in kind cells faces seconds) f l)

    pub fluxes-back : fluxes_in TR faces ≡ table faces (λ f. get_or fluxes f (pos 0))
    unfolding fluxes_in
    fluxes-back = rw step-kind-back (table-cong (pos 0) faces _ (λ f. get_or fluxes f (pos 0))
        (λ f l. rw (sign_read f l, size-read f l, sign-back (is_negative (get_or fluxes f (pos 0)))) (with_sign-of (get_or fluxes f (pos 0)))))

    pub outsides-back : ((f : ℕ) → f < faces → is_rim seconds f ≡ false → outside_of outsides f ≡ 0)
        → outsides_in TR faces seconds ≡ table faces (outside_of outsides)
    unfolding outsides_in step_record
    outsides-back none =
        ap (λ (k : ℕ). column_in TR (water_shape k faces seconds) 2 0) step-kind-back
        ∙ column-back TS TV fits 2 0 (omega arith)
        ∙ table-cong {A = ℕ} 0 faces (λ f. cond (is_rim seconds f) (outside_of outsides f) 0) (outside_of outsides) (λ f l. go f l (is_rim seconds f) refl)
      where
        go : (f : ℕ) → f < faces → (b : Bool) → is_rim seconds f ≡ b → cond b (outside_of outsides f) 0 ≡ outside_of outsides f
        go f l true e = refl
        go f l false e = sym (none f l e)

    -- the shape that the head says is the one that was written
    pub releases-back : releases_in TR cells faces seconds ≡ table cells (release_of releases)
    unfolding releases_in step_record
    releases-back = ap (λ (k : ℕ). column_in TR (step_shape k cells faces seconds) 3 0) step-kind-back ∙ column-back TS TV fits 3 0 (omega arith)

    step-zeros-good : (i : ℕ) → zero_bit_good TR step_zero_bits step_head_bits (step_bits kind cells faces seconds) i ≡ true
    unfolding step_record record_of
    step-zeros-good = zeros-good (fields_of TS TV) step_zero_bits step_head_bits (shape_bits TS) (omega arith)
        (omega (arith, step-some kind cells faces seconds)) (width-fields TS TV) step-zeros-back

    minus-read : (f : ℕ) → f < faces → minus_zero TR (value_bits kind) faces (step_head_bits + f * flux_bits kind) ≡ false
    minus-read f l =
        let R = TR in
        let p : step_head_bits + f * flux_bits kind ≡ place TS 1 0 f = omega arith in
        let q : step_head_bits + f * flux_bits kind + sign_bits ≡ place TS 1 1 f = omega arith in
        minus-at R (value_bits kind) faces f l
        ∙ ap (λ (x : ℕ). eqb (bits_at R x sign_bits) 1 && eqb (bits_at R (step_head_bits + f * flux_bits kind + sign_bits) (value_bits kind)) 0) p
        ∙ ap (λ (x : ℕ). eqb (value_in R TS 1 0 f) 1 && eqb (bits_at R x (value_bits kind)) 0) q
        ∙ rw (sign_read f l, size-read f l) (no-minus-zero (get_or fluxes f (pos 0)))

    pub step-bits-good : (i : ℕ) → (zero_bit_good TR step_zero_bits step_head_bits (step_bits kind cells faces seconds) i
        && not (minus_zero TR (value_bits kind) faces i)) ≡ true
    step-bits-good i = rw (step-zeros-good i, minus i (dec_lt i (step_head_bits + faces * flux_bits kind)))
      where
        minus : (j : ℕ) → Dec (j < step_head_bits + faces * flux_bits kind) → minus_zero TR (value_bits kind) faces j ≡ false
        minus j (yes l) = no_minus TR (value_bits kind) faces faces minus-read j (inl l)
        minus j (no f) = no_minus TR (value_bits kind) faces faces minus-read j (inr (omega arith))

-- Packing undoes reading: tables that a reading filled, which may be longer, are packed into the same bytes.

-- an entry of a column that was read into a table
entry-over : (bs : List ℕ) (S : List Section) (k j i : ℕ) (ys : List ℕ) → Has S k j i → get_or (over (column_in bs S k j) ys) i 0 ≡ value_in bs S k j i
entry-over bs S k j i ys h = get_d_over (rows_of (section_in S k)) (entry_in bs S k j) ys 0 i h.below ∙ rw h.there

-- the zero bits of a head that is good
head-zeros : (bs : List ℕ) (z h e : ℕ) → z ≤ h → h ≤ e → e ≤ 8 * length bs → ((i : ℕ) → i < 8 * length bs → zero_bit_good bs z h e i ≡ true) → 0
    ≡ bits_at bs (h - z) z
head-zeros bs z h e k m n good = sym (zero_field bs (h - z) z (λ i l q. good-clear bs z h e i (good i (omega arith)) (inl (l, omega arith))))

module _ (bs : List ℕ) (bytes : (j : ℕ) → get_or bs j 0 < 256) {n : MeshCounts} (passed : MeshPassed bs n) (lent : Mesh) where
  abbrev MN : Mesh
  MN = at_counts (mesh_in bs) (over_mesh (mesh_in bs) lent)

  mesh-zeros : 0 ≡ bits_at bs (mesh_head_bits - mesh_zero_bits) mesh_zero_bits
  mesh-zeros =
      let end = mesh_bits (kind_in bs) (cells_in bs) (faces_in bs) in
      head-zeros bs mesh_zero_bits mesh_head_bits end (omega arith) (mesh-some (kind_in bs) (cells_in bs) (faces_in bs))
      (omega (arith, passed.same_length, bytes-hold end)) passed.good

  mesh-head : (j : ℕ) → j < 4 → mesh_value (kind_in bs) MN 0 j 0 ≡ value_in bs (shape_in bs) 0 j 0
  mesh-head zero l = refl
  mesh-head (suc zero) l = refl
  mesh-head (suc (suc zero)) l = refl
  mesh-head (suc (suc (suc zero))) l = mesh-zeros
  mesh-head (suc (suc (suc (suc j)))) l = absurd (omega arith)

  mesh_agrees : (k j i : ℕ) → Has (shape_in bs) k j i → mesh_value (kind_in bs) MN k j i ≡ value_in bs (shape_in bs) k j i
  unfolding volumes_in firsts_in seconds_in shares_in reaches_in
  mesh_agrees zero j i h = let z : i ≡ 0 = omega (arith, h.below) in rw z (mesh-head j h.among)
  mesh_agrees (suc zero) zero i h = entry-over bs (shape_in bs) 1 0 i lent.volumes h
  mesh_agrees (suc zero) (suc j) i h = absurd (omega (arith, h.among))
  mesh_agrees (suc (suc zero)) zero i h = entry-over bs (shape_in bs) 2 0 i lent.firsts h
  mesh_agrees (suc (suc zero)) (suc zero) i h = entry-over bs (shape_in bs) 2 1 i lent.seconds h
  mesh_agrees (suc (suc zero)) (suc (suc zero)) i h = entry-over bs (shape_in bs) 2 2 i lent.shares h
  mesh_agrees (suc (suc zero)) (suc (suc (suc zero))) i h = entry-over bs (shape_in bs) 2 3 i lent.reaches h
  mesh_agrees (suc (suc zero)) (suc (suc (suc (suc j)))) i h = absurd (omega (arith, h.among))
  mesh_agrees (suc (suc (suc k))) j i h = absurd (omega (arith, h.below))

  pub mesh-again : mesh_record (kind_in bs) MN ≡ bs
  unfolding mesh_record
  mesh-again = record-again bs (shape_in bs) (mesh_value (kind_in bs) MN) passed.same_length bytes
      (λ i l m. good-clear bs mesh_zero_bits mesh_head_bits (mesh_bits (kind_in bs) (cells_in bs) (faces_in bs)) i (passed.good i m) (inr l)) mesh_agrees

-- a field: its bits fill whole bytes
module _ (w : Width) (cells : ℕ) (bs : List ℕ) (bytes : (j : ℕ) → get_or bs j 0 < 256) (passed : FieldPassed w cells bs) (masses : List ℕ) where
  field-agrees : (k j i : ℕ) → Has (field_shape (kind_in bs) cells) k j i → field_value (kind_in bs) cells (over (masses_in bs cells) masses) k j i
      ≡ value_in bs (field_shape (kind_in bs) cells) k j i
  unfolding masses_in
  field-agrees zero zero i h = let z : i ≡ 0 = omega (arith, h.below) in rw z
  field-agrees zero (suc zero) i h = let z : i ≡ 0 = omega (arith, h.below) in rw z (sym passed.same_count)
  field-agrees zero (suc (suc j)) i h = absurd (omega (arith, h.among))
  field-agrees (suc zero) zero i h = entry-over bs (field_shape (kind_in bs) cells) 1 0 i masses h
  field-agrees (suc zero) (suc j) i h = absurd (omega (arith, h.among))
  field-agrees (suc (suc k)) j i h = absurd (omega (arith, h.below))

  full : (i : ℕ) → field_bits (kind_in bs) cells ≤ i → i < 8 * length bs → bit_at bs i ≡ 0
  unfolding bytes_for mass_bits
  full i l m = absurd (go (width_of (kind_in bs)) passed.same_length l)
    where
      go : (v : Width) → length bs ≡ (16 + (cells * (mass_width v + 0) + 0) + 7) / 8 → 16 + (cells * (mass_width v + 0) + 0) ≤ i → ⊥
      go Narrow e n = omega arith
      go Wide e n = omega arith

  pub field-again : field_record (kind_in bs) cells (over (masses_in bs cells) masses) ≡ bs
  unfolding field_record
  field-again = record-again bs (field_shape (kind_in bs) cells) (field_value (kind_in bs) cells (over (masses_in bs cells) masses)) passed.same_length bytes full
      field-agrees

-- a sign and a size that are no minus with size 0
sign-again : (s n : ℕ) → s < 2 → (eqb s 1 && eqb n 0) ≡ false → cond (is_negative (with_sign (eqb s 1) n)) 1 0 ≡ s
sign-again zero n l e = refl
sign-again (suc zero) zero l e = absurd (true≢false e)
sign-again (suc zero) (suc n) l e = refl
sign-again (suc (suc s)) n l e = absurd (omega arith)

module _ (cells faces : ℕ) (seconds bs : List ℕ) (bytes : (j : ℕ) → get_or bs j 0 < 256) (passed : StepPassed cells faces seconds bs)
    (fluxes : List ℤ) (outsides releases : List ℕ) where
  abbrev SN : List Section
  SN = step_shape_in bs cells faces seconds

  abbrev WN : Values
  WN = step_value (kind_in bs) faces (over (fluxes_in bs faces) fluxes) (over (outsides_in bs faces seconds) outsides)
      (over (releases_in bs cells faces seconds) releases)

  room : step_bits (kind_in bs) cells faces seconds ≤ 8 * length bs
  room = omega (arith, passed.same_length, bytes-hold (step_bits (kind_in bs) cells faces seconds))

  plain : (f : ℕ) → f < faces → (eqb (value_in bs SN 1 0 f) 1 && eqb (value_in bs SN 1 1 f) 0) ≡ false
  plain f l =
      let p : step_head_bits + f * flux_bits (kind_in bs) ≡ place SN 1 0 f = omega arith in
      let q : step_head_bits + f * flux_bits (kind_in bs) + sign_bits ≡ place SN 1 1 f = omega arith in
      sym (minus-at bs (value_bits (kind_in bs)) faces f l
      ∙ ap (λ (x : ℕ). eqb (bits_at bs x sign_bits) 1 && eqb (bits_at bs (step_head_bits + f * flux_bits (kind_in bs) + sign_bits) (value_bits (kind_in bs))) 0) p
      ∙ ap (λ (x : ℕ). eqb (value_in bs SN 1 0 f) 1 && eqb (bits_at bs x (value_bits (kind_in bs))) 0) q)
      ∙ not-true _ (passed.plain (step_head_bits + f * flux_bits (kind_in bs))
      (omega (arith, room, step-some (kind_in bs) cells faces seconds, mul-le-mul_right (flux_bits (kind_in bs)) l, suc-mul f (flux_bits (kind_in bs)))))

  flux-is : (f : ℕ) → f < faces → get_or (over (fluxes_in bs faces) fluxes) f (pos 0) ≡ with_sign (minus_in bs faces f) (size_in bs faces f)
  unfolding fluxes_in
  flux-is f l = get_d_over faces (λ k. with_sign (minus_in bs faces k) (size_in bs faces k)) fluxes (pos 0) f l

  step-zeros : 0 ≡ bits_at bs (step_head_bits - step_zero_bits) step_zero_bits
  step-zeros = head-zeros bs step_zero_bits step_head_bits (step_bits (kind_in bs) cells faces seconds) (omega arith)
      (omega (arith, step-some (kind_in bs) cells faces seconds)) room passed.good

  step-agrees : (k j i : ℕ) → Has SN k j i → WN k j i ≡ value_in bs SN k j i
  unfolding outsides_in releases_in
  step-agrees zero zero i h = let z : i ≡ 0 = omega (arith, h.below) in rw z
  step-agrees zero (suc zero) i h = let z : i ≡ 0 = omega (arith, h.below) in rw z (sym passed.same_count)
  step-agrees zero (suc (suc zero)) i h = let z : i ≡ 0 = omega (arith, h.below) in rw z step-zeros
  step-agrees zero (suc (suc (suc j))) i h = absurd (omega (arith, h.among))
  step-agrees (suc zero) zero i h =
      ap (λ (z : ℤ). cond (is_negative z) 1 0) (flux-is i h.below)
      ∙ sign-again (value_in bs SN 1 0 i) (value_in bs SN 1 1 i) (bits-lt bs (place SN 1 0 i) sign_bits) (plain i h.below)
  step-agrees (suc zero) (suc zero) i h = ap size (flux-is i h.below) ∙ size-with_sign (minus_in bs faces i) (size_in bs faces i)
  step-agrees (suc zero) (suc (suc j)) i h = absurd (omega (arith, h.among))
  step-agrees (suc (suc zero)) zero i h = entry-over bs SN 2 0 i outsides h
  step-agrees (suc (suc zero)) (suc j) i h = absurd (omega (arith, h.among))
  step-agrees (suc (suc (suc zero))) zero i h = entry-over bs SN 3 0 i releases h
  step-agrees (suc (suc (suc zero))) (suc j) i h = absurd (omega (arith, h.among))
  step-agrees (suc (suc (suc (suc k)))) j i h = absurd (omega (arith, h.below))

  pub step-again : step_record (kind_in bs) cells faces seconds (over (fluxes_in bs faces) fluxes) (over (outsides_in bs faces seconds) outsides)
      (over (releases_in bs cells faces seconds) releases) ≡ bs
  unfolding step_record
  step-again = record-again bs SN WN passed.same_length bytes
      (λ i l m. good-clear bs step_zero_bits step_head_bits (step_bits (kind_in bs) cells faces seconds) i (passed.good i m) (inr l)) step-agrees
