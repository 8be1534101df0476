-- What a head that is fine says, and how an answer and its verdict go together.
use Prim.Native.Nat.{ℕ, ◌+◌, ◌≤◌, min}
use mathlib.Core.Path.{◌≡◌, refl, sym}
use mathlib.Core.Bool.{Bool, true, false, ◌||◌, true≢false}
use mathlib.Core.List.{List, [], ◌∷◌}
use native.Mathlib.Nat.{le_trans}
use native.Mathlib.Omega.{arith}
use lib.ListN.{length}
use lib.Dec.{leb}
use borrow.Author.Tests.{leb-true, le-leb, eqb-true}
use Rattle.lists.proofs.Tests.{both_true, true-both}
use Rattle.model.specs.Mesh.{max_cells, max_faces}
use Rattle.model.specs.Causes.{accepted, refused, Verdict, fine, ◌and_then◌, need, counts_within}
use Rattle.model.proofs.Verdicts.{all-fine, fine-all, need-fine, need-met, long-fine}
use Rattle.record_bits.specs.Field.{bits_at, widest}
use Rattle.record_bits.specs.Layout.{bytes_for}
use Rattle.record_layouts.specs.Layouts.{field_kind}
use Rattle.record_layouts.specs.declared.Width.{Width}
use Rattle.record_heads.specs.declared.MeshLength.{MeshLength}
use Rattle.record_reader.specs.Numbers.{furthest, number_at, spelled_number}
use Rattle.record_heads.specs.Heads.{kind_in, cells_in, faces_in, step_faces_in, is_mesh_kind, is_step_kind, mesh_head_causes, field_head_causes, step_head_causes, mesh_head_verdict, field_head_verdict, step_head_verdict, bytes_of}

-- a field that the record holds is read as its bits spell
pub held : (bs : List ℕ) (bit width : ℕ) → width ≤ widest → bit ≤ furthest → bytes_for (bit + width) ≤ length bs → spelled_number (number_at bs bit width)
    ≡ bits_at bs bit width
held bs bit width l m h = rw (le-leb width widest l, le-leb bit furthest m, le-leb (bytes_for (bit + width)) (length bs) h)

-- a record that is as long as its head
pub head-there : {j m : ℕ} (n : ℕ) → j ≤ n → fine ≡ need 11 0 (leb n m) → j ≤ m
head-there {m = m} n l e = le_trans l (leb-true n m (need-fine 11 0 _ (sym e)))

-- past cause 1 with a caller's limits
pub within-says : (most_cells most_faces cells faces : ℕ) → counts_within most_cells most_faces cells faces ≡ fine → (1 ≤ cells) × (cells ≤ most_cells)
    × (faces ≤ most_faces)
unfolding counts_within
within-says most_cells most_faces cells faces e =
    let p = all-fine (_ ∷ _ ∷ []) e in
    let c = both_true (leb 1 cells) (leb cells most_cells) (need-fine 1 0 _ p.0) in
    (leb-true _ _ c.0, leb-true _ _ c.1, leb-true _ _ (need-fine 1 1 _ p.1.0))

-- and what passes it
pub within-met : (most_cells most_faces cells faces : ℕ) → 1 ≤ cells → cells ≤ most_cells → faces ≤ most_faces → counts_within most_cells most_faces cells faces ≡ fine
unfolding counts_within
within-met most_cells most_faces cells faces some few least =
    fine-all (_ ∷ _ ∷ []) (need-met 1 0 (true-both (le-leb 1 cells some) (le-leb cells most_cells few)), (need-met 1 1 (le-leb faces most_faces least), tt))

pub record MeshHeadSays (most_cells most_faces : ℕ) (bs : List ℕ) : Type 0 where
  pub long : 4 ≤ length bs
  pub kind : is_mesh_kind (kind_in bs) ≡ true
  pub some_cells : 1 ≤ cells_in bs
  pub few_cells : cells_in bs ≤ max_cells
  pub few_faces : faces_in bs ≤ max_faces
  pub within_cells : cells_in bs ≤ most_cells
  pub within_faces : faces_in bs ≤ most_faces

pub mesh-head-says : (most_cells most_faces : ℕ) (bs : List ℕ) → mesh_head_verdict most_cells most_faces bs ≡ fine → MeshHeadSays most_cells most_faces bs
unfolding mesh_head_verdict bytes_for
mesh-head-says most_cells most_faces bs e =
    let p = all-fine (mesh_head_causes most_cells most_faces bs) e in
    let n = within-says (min most_cells max_cells) (min most_faces max_faces) (cells_in bs) (faces_in bs) p.1.1.0 in
    record {
      long = leb-true _ _ (need-fine 11 0 _ p.0);
      kind = need-fine 13 0 _ p.1.0;
      some_cells = n.0;
      few_cells = omega (arith, n.1);
      few_faces = omega (arith, n.2);
      within_cells = omega (arith, n.1);
      within_faces = omega (arith, n.2);
    }

pub record FieldHeadSays (w : Width) (cells : ℕ) (bs : List ℕ) : Type 0 where
  pub long : 2 ≤ length bs
  pub kind : kind_in bs ≡ field_kind w
  pub same_count : cells_in bs ≡ cells
  pub some_cells : 1 ≤ cells
  pub few_cells : cells ≤ max_cells

pub field-head-says : (w : Width) (cells : ℕ) (bs : List ℕ) → field_head_verdict w cells bs ≡ fine → FieldHeadSays w cells bs
unfolding field_head_verdict bytes_for
field-head-says w cells bs e =
    let p = all-fine (field_head_causes w cells bs) e in
    let n = both_true (leb 1 cells) (leb cells max_cells) (need-fine 1 0 _ p.1.1.1.0) in
    record {
      long = leb-true _ _ (need-fine 11 0 _ p.0);
      kind = eqb-true _ _ (need-fine 13 0 _ p.1.0);
      same_count = eqb-true _ _ (need-fine 13 1 _ p.1.1.0);
      some_cells = leb-true _ _ n.0;
      few_cells = leb-true _ _ n.1;
    }

pub record StepHeadSays (w : Width) (cells faces : ℕ) (seconds bs : List ℕ) : Type 0 where
  pub long : 4 ≤ length bs
  pub kind : is_step_kind w (kind_in bs) ≡ true
  pub same_count : step_faces_in bs ≡ faces
  pub some_cells : 1 ≤ cells
  pub few_cells : cells ≤ max_cells
  pub few_faces : faces ≤ max_faces
  pub lent : faces ≤ length seconds

pub step-head-says : (w : Width) (cells faces : ℕ) (seconds bs : List ℕ) → step_head_verdict w cells faces seconds bs ≡ fine
    → StepHeadSays w cells faces seconds bs
unfolding step_head_verdict bytes_for
step-head-says w cells faces seconds bs e =
    let p = all-fine (step_head_causes w cells faces seconds bs) e in
    let n = within-says max_cells max_faces cells faces p.1.1.1.0 in
    record {
      long = leb-true _ _ (need-fine 11 0 _ p.0);
      kind = need-fine 13 0 _ p.1.0;
      same_count = eqb-true _ _ (need-fine 13 1 _ p.1.1.0);
      some_cells = n.0;
      few_cells = n.1;
      few_faces = n.2;
      lent = long-fine 2 _ _ p.1.1.1.1.0;
    }

-- the bytes alone of what a head says that passes, or its refusal
pub bytes-alone : (v : Verdict) (n : MeshLength) → bytes_of (v and_then accepted n) ≡ (v and_then accepted n.bytes)
unfolding ◌and_then◌
bytes-alone (accepted _) n = refl
bytes-alone (refused i j) n = refl

-- of two tests of which one holds, the second does where the first does not
pub other-true : (a b : Bool) → (a || b) ≡ true → a ≡ false → b ≡ true
other-true true b e d = absurd (true≢false d)
other-true false b e d = e
