-- What makes a reading accepted, and what an accepted one has passed.
use Prim.Native.Nat.{ℕ, ◌*◌, ◌≤◌, ◌<◌, min}
use mathlib.Core.Path.{◌≡◌, refl, ◌∙◌}
use mathlib.Core.Bool.{true, not, ◌&&◌}
use mathlib.Core.List.{List, [], ◌∷◌}
use native.Mathlib.Omega.{arith}
use lib.ListN.{length}
use borrow.Author.Tests.{eq-eqb, le-leb}
use Rattle.lists.proofs.Tests.{both_true}
use Rattle.model.specs.Mesh.{max_cells, max_faces}
use Rattle.model.specs.Accepted.{MeshLong}
use Rattle.model.specs.Causes.{accepted, fine, counts_within}
use Rattle.model.proofs.Verdicts.{need-met, fine-each, each-fine, past, fine-all}
use Rattle.model.proofs.Accepted.{all-long}
use Rattle.record_bits.specs.Layout.{bytes_for}
use Rattle.record_layouts.specs.Layouts.{field_kind, value_bits, mesh_zero_bits, step_zero_bits, mesh_head_bits, step_head_bits, mesh_bits, field_bits, step_bits, mesh_length, field_length, step_length}
use Rattle.record_heads.specs.Heads.{kind_in, cells_in, faces_in, step_faces_in, is_mesh_kind, is_step_kind, mesh_head_causes, step_head_causes, mesh_head_verdict, field_head_verdict, step_head_verdict}
use Rattle.record_zeros.specs.Zeros.{zero_bit_good, minus_zero}
use Rattle.record_reading.specs.Reading.{counts_in, mesh_bit_good, step_bit_good, mesh_table_causes, step_body_causes, mesh_body_verdict, field_body_verdict, step_body_verdict, mesh_read, field_read, step_read}
use Rattle.record_layouts.specs.declared.Width.{Width}
use Rattle.record_reading.specs.declared.MeshCounts.{MeshCounts}
use Rattle.record_reading.proofs.ReadLaws.{read-says, field-read-says, step-read-says}

module _ (bs : List ℕ) where
  pub mesh-reads : (most_cells most_faces v f s w k : ℕ) → is_mesh_kind (kind_in bs) ≡ true
      → counts_within (min most_cells max_cells) (min most_faces max_faces) (cells_in bs) (faces_in bs) ≡ fine → length bs
      ≡ bytes_for (mesh_bits (kind_in bs) (cells_in bs) (faces_in bs))
      → MeshLong (cells_in bs) (faces_in bs) v f s w k
      → ((i : ℕ) → zero_bit_good bs mesh_zero_bits mesh_head_bits (mesh_bits (kind_in bs) (cells_in bs) (faces_in bs)) i ≡ true)
      → mesh_read most_cells most_faces bs v f s w k ≡ accepted (counts_in bs)
  unfolding mesh_read mesh_head_verdict mesh_body_verdict mesh_length mesh_bit_good bytes_for
  mesh-reads most_cells most_faces v f s w k kind within len long good =
      let head = fine-all (mesh_head_causes most_cells most_faces bs)
      (need-met 11 0 (le-leb 4 (length bs) (omega (arith, len))), (need-met 13 0 kind, (within, tt))) in
      let tables = fine-all (mesh_table_causes bs v f s w k) (need-met 11 0 (eq-eqb _ _ len), all-long long) in
      past _ (past _ head ∙ past _ tables ∙ fine-each 12 _ _ (λ i l. good i))

  pub field_reads : (w : Width) (cells m : ℕ) → kind_in bs ≡ field_kind w → cells_in bs ≡ cells → 1 ≤ cells → cells ≤ max_cells → length bs
      ≡ bytes_for (field_bits (field_kind w) cells) → cells ≤ m → field_read w cells bs m ≡ fine
  unfolding field_read field_head_verdict field_body_verdict field_length bytes_for
  field_reads w cells m kind c some few len lm =
      rw (kind, c)
      (fine-all (_ ∷ _ ∷ []) (
        fine-all (_ ∷ _ ∷ _ ∷ _ ∷ []) (
          need-met 11 0 (le-leb 2 (length bs) (omega (arith, len))),
          (
            need-met 13 0 (eq-eqb (field_kind w) (field_kind w) refl),
            (need-met 13 1 (eq-eqb cells cells refl), (need-met 1 0 (rw (le-leb 1 cells some) (le-leb cells max_cells few)), tt)),
          ),
        ),
        (fine-all (_ ∷ _ ∷ []) (need-met 11 0 (eq-eqb _ _ len), (need-met 2 5 (le-leb _ _ lm), tt)), tt),
      ))

  pub step_reads : (w : Width) (cells faces : ℕ) (seconds : List ℕ) (u x y : ℕ) → is_step_kind w (kind_in bs) ≡ true → step_faces_in bs ≡ faces
      → counts_within max_cells max_faces cells faces ≡ fine → faces ≤ length seconds → length bs ≡ bytes_for (step_bits (kind_in bs) cells faces seconds)
      → faces ≤ u → faces ≤ x → cells ≤ y
      → ((i : ℕ) → (zero_bit_good bs step_zero_bits step_head_bits (step_bits (kind_in bs) cells faces seconds) i && not (minus_zero bs (value_bits (kind_in bs)) faces i))
      ≡ true)
      → step_read w cells faces seconds bs u x y ≡ accepted (kind_in bs)
  unfolding step_read step_head_verdict step_body_verdict step_length step_bit_good bytes_for
  step_reads w cells faces seconds u x y kind n within lent len lu lx ly good =
      past _
      (fine-all (_ ∷ _ ∷ []) (
        fine-all (step_head_causes w cells faces seconds bs) (
          need-met 11 0 (le-leb 4 (length bs) (omega (arith, len))),
          (need-met 13 0 kind, (need-met 13 1 (eq-eqb _ _ n), (within, (need-met 2 2 (le-leb _ _ lent), tt)))),
        ),
        (
          fine-all (step_body_causes cells faces seconds bs u x y) (
            need-met 11 0 (eq-eqb _ _ len),
            (
              need-met 2 6 (le-leb _ _ lu),
              (need-met 2 7 (le-leb _ _ lx), (need-met 2 14 (le-leb _ _ ly), (fine-each 12 _ _ (λ i l. good i), tt))),
            ),
          ),
          tt,
        ),
      ))

-- an accepted mesh
pub record MeshPassed (bs : List ℕ) (n : MeshCounts) : Type 0 where
  pub counts_are : n ≡ counts_in bs
  pub kind : is_mesh_kind (kind_in bs) ≡ true
  pub same_length : length bs ≡ bytes_for (mesh_bits (kind_in bs) (cells_in bs) (faces_in bs))
  pub good : (i : ℕ) → i < 8 * length bs → zero_bit_good bs mesh_zero_bits mesh_head_bits (mesh_bits (kind_in bs) (cells_in bs) (faces_in bs)) i ≡ true

pub mesh-passed : (most_cells most_faces : ℕ) (bs : List ℕ) (v f s w k : ℕ) {n : MeshCounts} → mesh_read most_cells most_faces bs v f s w k ≡ accepted n
    → MeshPassed bs n
unfolding mesh_bit_good
mesh-passed most_cells most_faces bs v f s w k e =
    let r = read-says most_cells most_faces bs v f s w k e in
    record {
      counts_are = r.counts_are;
      kind = r.head.kind;
      same_length = r.tables.same_length;
      good = each-fine 12 (8 * length bs) (λ i. zero_bit_good bs mesh_zero_bits mesh_head_bits (mesh_bits (kind_in bs) (cells_in bs) (faces_in bs)) i) r.zeros;
    }

-- an accepted field
pub record FieldPassed (w : Width) (cells : ℕ) (bs : List ℕ) : Type 0 where
  pub kind : kind_in bs ≡ field_kind w
  pub same_count : cells_in bs ≡ cells
  pub same_length : length bs ≡ bytes_for (field_bits (kind_in bs) cells)

pub field-passed : (w : Width) (cells : ℕ) (bs : List ℕ) (m : ℕ) → field_read w cells bs m ≡ fine → FieldPassed w cells bs
field-passed w cells bs m e =
    let r = field-read-says w cells bs m e in
    record { kind = r.head.kind; same_count = r.head.same_count; same_length = r.tables.same_length }

-- an accepted step
pub record StepPassed (cells faces : ℕ) (seconds bs : List ℕ) : Type 0 where
  pub same_count : step_faces_in bs ≡ faces
  pub same_length : length bs ≡ bytes_for (step_bits (kind_in bs) cells faces seconds)
  pub good : (i : ℕ) → i < 8 * length bs → zero_bit_good bs step_zero_bits step_head_bits (step_bits (kind_in bs) cells faces seconds) i ≡ true
  pub plain : (i : ℕ) → i < 8 * length bs → not (minus_zero bs (value_bits (kind_in bs)) faces i) ≡ true

pub step-passed : (w : Width) (cells faces : ℕ) (seconds bs : List ℕ) (u x y : ℕ) {n : ℕ} → step_read w cells faces seconds bs u x y ≡ accepted n
    → StepPassed cells faces seconds bs
unfolding step_bit_good
step-passed w cells faces seconds bs u x y e =
    let r = step-read-says w cells faces seconds bs u x y e in
    let end = step_bits (kind_in bs) cells faces seconds in
    let both = each-fine 12 (8 * length bs) (λ i. zero_bit_good bs step_zero_bits step_head_bits end i && not (minus_zero bs (value_bits (kind_in bs)) faces i))
    r.zeros in
    record {
      same_count = r.head.same_count;
      same_length = r.tables.same_length;
      good = λ i l. (both_true (zero_bit_good bs step_zero_bits step_head_bits end i) _ (both i l)).0;
      plain = λ i l. (both_true (zero_bit_good bs step_zero_bits step_head_bits end i) _ (both i l)).1;
    }
