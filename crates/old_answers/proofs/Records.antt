-- A record of kinds 1 to 4 has the old shape, so that its head, its body and its values are the old ones.
use Prim.Native.Nat.{ℕ, ◌^◌, ◌≤◌, ◌<◌}
use mathlib.Core.Path.{◌≡◌, refl, sym, ap, ◌∙◌}
use mathlib.Core.Logic.{◌≢◌}
use mathlib.Core.Bool.{Bool, true, false, ◌||◌, true≢false}
use mathlib.Core.List.{List, [], ◌∷◌}
use native.Mathlib.Omega.{arith}
use borrow.Author.Tests.{eqb-true, ne_eqb}
use lib.Dec.{eqb}
use lib.ListN.{get_or}
use lib.IntN.{pos}
use Rattle.lists.proofs.Tables.{get_or-table}
use Rattle.lists.proofs.Tests.{Same, same, same?}
use Rattle.signed.specs.Sign.{size, with_sign}
use Rattle.signed.proofs.Laws.{size-with_sign}
use Rattle.model.specs.Mesh.{old_ceiling}
use Rattle.model.specs.Causes.{accepted, Verdict, fine, ◌and_then◌}
use Rattle.model.specs.Ceilings.{MeshSmall}
use Rattle.model.proofs.Verdicts.{both-fine, all-fine, need-fine}
use Rattle.record_bits.specs.Layout.{bytes_for}
use Rattle.record_bits.proofs.Fields.{bits-lt}
use Rattle.record_sections.specs.Sections.{Section, place, length_of}
use Rattle.record_layouts.specs.Layouts.{width_of, value_of, value_bits, mass_bits, release_bits, step_head, flux_section, mesh_shape, field_shape, step_shape, mesh_length, field_length, step_length}
use Rattle.record_heads.specs.Heads.{kind_in, width_in, cells_in, faces_in, is_mesh_kind, mesh_head_verdict, field_head_verdict, step_head_verdict, mesh_measured, field_needs, step_needs}
use Rattle.record_layouts.specs.declared.Width.TheVariants.{Narrow}
use Rattle.record_reading.specs.Reading.{volumes_in, firsts_in, seconds_in, shares_in, reaches_in, masses_in, fluxes_in, mesh_in, minus_in, size_in, mesh_bit_good, step_bit_good, mesh_body_verdict, field_body_verdict, step_body_verdict, field_read}
use Rattle.taking_mesh.proofs.MeshLaws.{mesh-small}
use Rattle.old_answers.specs.Before.{old_field_shape, old_step_shape, old_shape_in, old_step_shape_in, mesh_by, fluxes_by, old_mesh_in, old_masses_in}
use Rattle.old_answers.specs.Before.{old_mesh_head, mesh_body_by, old_mesh_read, old_field_head, field_body_by, old_field_read, old_step_head, step_body_by, old_step_read, old_field_needs, old_step_needs}
use Rattle.old_answers.proofs.Outcomes.{same_after}

or-false : (b : Bool) → (b || false) ≡ b
or-false true = refl
or-false false = refl

-- A MESH of another kind than 5
module _ (bs : List ℕ) (k : kind_in bs ≢ 5) where
  mesh-kind : is_mesh_kind (kind_in bs) ≡ eqb (kind_in bs) 1
  mesh-kind = ap (λ (b : Bool). eqb (kind_in bs) 1 || b) (ne_eqb (kind_in bs) 5 k) ∙ or-false (eqb (kind_in bs) 1)

  pub mesh-head : (most_cells most_faces : ℕ) → mesh_head_verdict most_cells most_faces bs ≡ old_mesh_head most_cells most_faces bs
  unfolding mesh_head_verdict old_mesh_head bytes_for
  mesh-head most_cells most_faces = rw mesh-kind

module _ (bs : List ℕ) where
  pub kind-one : (most_cells most_faces : ℕ) → old_mesh_head most_cells most_faces bs ≡ fine → kind_in bs ≡ 1
  unfolding old_mesh_head
  kind-one most_cells most_faces e = eqb-true (kind_in bs) 1 (need-fine 13 0 _ (all-fine (_ ∷ _ ∷ _ ∷ []) e).1.0)

  -- of kind 1
  module _ (e : kind_in bs ≡ 1) where
    pub mesh-narrow : width_in bs ≡ Narrow
    mesh-narrow = ap width_of e

    mesh-shape : mesh_shape (kind_in bs) (cells_in bs) (faces_in bs) ≡ old_shape_in bs
    unfolding value_bits
    mesh-shape = ap (λ (n : ℕ). mesh_shape n (cells_in bs) (faces_in bs)) e

    pub mesh-in : mesh_in bs ≡ old_mesh_in bs
    unfolding volumes_in firsts_in seconds_in shares_in reaches_in
    mesh-in = ap (λ (S : List Section). mesh_by S bs) mesh-shape

    pub mesh-length : mesh_length (kind_in bs) (cells_in bs) (faces_in bs) ≡ length_of (old_shape_in bs)
    unfolding mesh_length
    mesh-length = ap length_of mesh-shape

    pub mesh-body : (volumes firsts seconds shares reaches : ℕ) → mesh_body_verdict bs volumes firsts seconds shares reaches
        ≡ mesh_body_by (old_shape_in bs) bs volumes firsts seconds shares reaches
    unfolding mesh_body_verdict mesh_body_by mesh_length mesh_bit_good
    mesh-body volumes firsts seconds shares reaches = ap (λ (S : List Section). mesh_body_by S bs volumes firsts seconds shares reaches) mesh-shape

    pub old-small : MeshSmall (mesh_in bs)
    old-small = mesh-small bs mesh-narrow

pub mesh-found : (bs : List ℕ) → kind_in bs ≢ 5 → (most_cells most_faces volumes firsts seconds shares reaches : ℕ)
    → (mesh_head_verdict most_cells most_faces bs and_then mesh_body_verdict bs volumes firsts seconds shares reaches)
    ≡ old_mesh_read most_cells most_faces bs volumes firsts seconds shares reaches
mesh-found bs k most_cells most_faces volumes firsts seconds shares reaches =
    ap (λ (v : Verdict). v and_then mesh_body_verdict bs volumes firsts seconds shares reaches) (mesh-head bs k most_cells most_faces)
    ∙ same_after (old_mesh_head most_cells most_faces bs) _ _ (λ h. mesh-body bs (kind-one bs most_cells most_faces h) volumes firsts seconds shares reaches)

pub read-kind-one : (bs : List ℕ) (most_cells most_faces volumes firsts seconds shares reaches : ℕ)
    → old_mesh_read most_cells most_faces bs volumes firsts seconds shares reaches ≡ fine → kind_in bs ≡ 1
read-kind-one bs most_cells most_faces volumes firsts seconds shares reaches e = kind-one bs most_cells most_faces (both-fine _ _ e).0

pub mesh-measured : (most_cells most_faces : ℕ) (bs : List ℕ) → kind_in bs ≢ 5
    → mesh_measured most_cells most_faces bs ≡ (old_mesh_head most_cells most_faces bs and_then accepted (record { bytes = length_of (old_shape_in bs); width = Narrow }))
unfolding mesh_measured
mesh-measured most_cells most_faces bs k =
    ap (λ (v : Verdict). v and_then accepted (record { bytes = mesh_length (kind_in bs) (cells_in bs) (faces_in bs); width = width_in bs }))
    (mesh-head bs k most_cells most_faces)
    ∙ same_after (old_mesh_head most_cells most_faces bs) _ _ (λ h. rw
    (mesh-length bs (kind-one bs most_cells most_faces h), mesh-narrow bs (kind-one bs most_cells most_faces h)))

-- A FIELD told to be narrow
module _ (cells : ℕ) (bs : List ℕ) where
  field-head : field_head_verdict Narrow cells bs ≡ old_field_head cells bs
  unfolding field_head_verdict old_field_head bytes_for
  field-head = refl

  kind-two : old_field_head cells bs ≡ fine → kind_in bs ≡ 2
  unfolding old_field_head
  kind-two e = eqb-true (kind_in bs) 2 (need-fine 13 0 _ (all-fine (_ ∷ _ ∷ _ ∷ _ ∷ []) e).1.0)

  field-shape : kind_in bs ≡ 2 → field_shape (kind_in bs) cells ≡ old_field_shape cells
  unfolding mass_bits
  field-shape e = ap (λ (n : ℕ). field_shape n cells) e

  pub old-field-read : (masses : ℕ) → field_read Narrow cells bs masses ≡ old_field_read cells bs masses
  unfolding field_read field_body_verdict field_body_by field_length
  old-field-read masses = ap (λ (v : Verdict). v and_then field_body_verdict cells bs masses) field-head
      ∙ same_after (old_field_head cells bs) _ _ (λ h. ap (λ (S : List Section). field_body_by S cells bs masses) (field-shape (kind-two h)))

  pub old-masses : (masses : ℕ) → old_field_read cells bs masses ≡ fine → masses_in bs cells ≡ old_masses_in bs cells
  unfolding masses_in
  old-masses masses e = rw (field-shape (kind-two (both-fine _ _ e).0))

  pub field-needs : field_needs Narrow cells bs ≡ old_field_needs cells bs
  unfolding field_needs field_length mass_bits
  field-needs = ap (λ (v : Verdict). v and_then accepted (length_of (old_field_shape cells))) field-head

-- A STEP told to be narrow: of kind 3 or 4
old-kinds : (kind : ℕ) → (eqb kind 3 || eqb kind 4) ≡ true → (cells faces : ℕ) (seconds : List ℕ)
    → (width_of kind ≡ Narrow) × (step_shape kind cells faces seconds ≡ old_step_shape kind cells faces seconds)
unfolding value_bits mass_bits release_bits
old-kinds kind e cells faces seconds = go (eqb kind 3) (same? kind 3) (eqb kind 4) (same? kind 4) e
  where
    go : (a : Bool) → Same kind 3 a → (b : Bool) → Same kind 4 b → (a || b) ≡ true → (width_of kind ≡ Narrow)
        × (step_shape kind cells faces seconds ≡ old_step_shape kind cells faces seconds)
    go true (same d) b o h = rw d (refl, refl)
    go false n true (same d) h = rw d (refl, refl)
    go false n false o h = absurd (true≢false (sym h))

module _ (cells faces : ℕ) (seconds bs : List ℕ) where
  step-head : step_head_verdict Narrow cells faces seconds bs ≡ old_step_head cells faces seconds bs
  unfolding step_head_verdict old_step_head bytes_for
  step-head = refl

  step_kind : old_step_head cells faces seconds bs ≡ fine → (eqb (kind_in bs) 3 || eqb (kind_in bs) 4) ≡ true
  unfolding old_step_head
  step_kind e = need-fine 13 0 _ (all-fine (_ ∷ _ ∷ _ ∷ _ ∷ _ ∷ []) e).1.0

  step-shape : old_step_head cells faces seconds bs ≡ fine → step_shape (kind_in bs) cells faces seconds ≡ old_step_shape_in bs cells faces seconds
  step-shape e = (old-kinds (kind_in bs) (step_kind e) cells faces seconds).1

  pub step-found : (fluxes outsides releases : ℕ)
      → (step_head_verdict Narrow cells faces seconds bs and_then step_body_verdict cells faces seconds bs fluxes outsides releases)
      ≡ old_step_read cells faces seconds bs fluxes outsides releases
  unfolding step_body_verdict step_body_by step_length step_bit_good
  step-found fluxes outsides releases = ap (λ (v : Verdict). v and_then step_body_verdict cells faces seconds bs fluxes outsides releases) step-head
      ∙ same_after (old_step_head cells faces seconds bs) _ _ (λ h. ap (λ (S : List Section). step_body_by S cells faces bs fluxes outsides releases)
      (step-shape h))

  pub step-needs : step_needs Narrow cells faces seconds bs ≡ old_step_needs cells faces seconds bs
  unfolding step_needs step_length
  step-needs = ap (λ (v : Verdict). v and_then accepted (step_length (kind_in bs) cells faces seconds)) step-head
      ∙ same_after (old_step_head cells faces seconds bs) _ _ (λ h. ap (λ (S : List Section). accepted (length_of S)) (step-shape h))

  module _ (fluxes outsides releases : ℕ) (e : old_step_read cells faces seconds bs fluxes outsides releases ≡ fine) where
    pub read-shape : step_shape (kind_in bs) cells faces seconds ≡ old_step_shape_in bs cells faces seconds
    read-shape = step-shape (both-fine _ _ e).0

    pub step-narrow : width_in bs ≡ Narrow
    step-narrow = (old-kinds (kind_in bs) (step_kind (both-fine _ _ e).0) cells faces seconds).0

    pub old-fluxes : fluxes_in bs faces ≡ fluxes_by (old_step_shape_in bs cells faces seconds) bs faces
    unfolding fluxes_in
    old-fluxes = ap (λ (S : List Section). fluxes_by S bs faces) read-shape

-- 12 bits hold no size of U above 4,095
narrow-value : (kind : ℕ) → width_of kind ≡ Narrow → value_bits kind ≡ value_of Narrow
unfolding value_bits
narrow-value kind e = ap value_of e

pub flux-small : (step : List ℕ) → width_in step ≡ Narrow → (faces f : ℕ) → f < faces → size (get_or (fluxes_in step faces) f (pos 0)) ≤ old_ceiling
unfolding fluxes_in
flux-small step e faces f l =
    let k = kind_in step in
    let h : size_in step faces f < 2 ^ value_bits k = bits-lt step (place (step_head ∷ flux_section k faces ∷ []) 1 1 f) (value_bits k) in
    let q : 2 ^ value_bits k ≡ 2 ^ value_of Narrow = ap (λ (n : ℕ). 2 ^ n) (narrow-value k e) in
    rw (get_or-table faces (λ g. with_sign (minus_in step faces g) (size_in step faces g)) (pos 0) f l, size-with_sign (minus_in step faces f) (size_in step faces f))
    (omega (arith, h, q))
