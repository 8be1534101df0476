-- What a record that passed its tests says, and what a reading comes to where it is refused, at its head or after it, and where it is accepted.
use Prim.Native.Nat.{ℕ, ◌*◌, ◌≤◌}
use mathlib.Core.Path.{◌≡◌, sym}
use mathlib.Core.List.{List}
use mathlib.Core.Bool.{Bool, true, false, ◌||◌}
use lib.Dec.{eqb}
use lib.IntN.{ℤ}
use Rattle.lists.proofs.Tests.{Same, same, same?}
use lib.ListN.{length}
use borrow.Author.Tests.{eqb-true}
use Rattle.lists.specs.Table.{over}
use Rattle.lists.proofs.Tables.{length-table}
use Rattle.model.specs.Mesh.{Mesh}
use Rattle.model.specs.Meshes.{over_mesh, MeshCut}
use Rattle.model.specs.Accepted.{MeshLong}
use Rattle.model.specs.Causes.{Outcome, accepted, Verdict, fine, ◌and_then◌, in_turn, each}
use Rattle.model.specs.Answers.{told}
use Rattle.model.specs.declared.Refusal.{Refusal}
use Rattle.model.proofs.Verdicts.{both-fine, all-fine, need-fine, long-fine}
use Rattle.model.proofs.Accepted.{long-says}
use Rattle.record_bits.specs.Layout.{bytes_for}
use Rattle.record_layouts.specs.Layouts.{mesh_kind, width_of, kind_number, mesh_bits, field_bits, step_bits, mesh_length, field_length, step_length}
use Rattle.record_heads.specs.Heads.{kind_in, is_mesh_kind, cells_in, faces_in, mesh_head_verdict, step_head_verdict}
use Rattle.record_layouts.specs.declared.Width.{Width}
use Rattle.record_layouts.specs.declared.StepKind.{StepKind}
use Rattle.record_heads.proofs.HeadLaws.{MeshHeadSays, mesh-head-says, FieldHeadSays, field-head-says, StepHeadSays, step-head-says}
use Rattle.record_reading.specs.Reading.{counts_in, volumes_in, firsts_in, seconds_in, shares_in, reaches_in, mesh_in, masses_in, fluxes_in, outsides_in, step_shape_in, releases_in, mesh_bit_good, step_bit_good, mesh_table_causes, field_body_causes, step_table_causes, mesh_body_verdict, field_body_verdict, step_body_verdict, mesh_read, field_read, step_read}
use Rattle.record_reading.specs.Answers.{MeshReading, FieldReading, StepReading}
use Rattle.record_bodies.specs.Bodies.{StepFilled}
use Rattle.record_reading.specs.declared.MeshCounts.{MeshCounts}
use Rattle.std.specs.Prelude.{Ok, Err}

-- the kind of a mesh is that of its width
pub mesh-kind-is : (k : ℕ) → is_mesh_kind k ≡ true → mesh_kind (width_of k) ≡ k
mesh-kind-is k e = go (eqb k 1) (same? k 1) e
  where
    go : (b : Bool) → Same k 1 b → (b || eqb k 5) ≡ true → mesh_kind (width_of k) ≡ k
    go true (same q) d = rw q
    go false o d = let q = eqb-true k 5 d in rw q

-- a mesh as it is read: its tables are as long as its counts
pub mesh_cut : (bs : List ℕ) → MeshCut (mesh_in bs)
unfolding volumes_in firsts_in seconds_in shares_in reaches_in
mesh_cut bs = record {
  volumes_cut = sym (length-table _ _);
  firsts_cut = sym (length-table _ _);
  seconds_cut = sym (length-table _ _);
  shares_cut = sym (length-table _ _);
  reaches_cut = sym (length-table _ _);
}

-- what a record that passed its length and its tables says
pub record MeshTablesSay (bs : List ℕ) (volumes firsts seconds shares reaches : ℕ) : Type 0 where
  pub same_length : length bs ≡ bytes_for (mesh_bits (kind_in bs) (cells_in bs) (faces_in bs))
  pub mesh-long : MeshLong (cells_in bs) (faces_in bs) volumes firsts seconds shares reaches

pub mesh-tables-say : (bs : List ℕ) (volumes firsts seconds shares reaches : ℕ) → in_turn (mesh_table_causes bs volumes firsts seconds shares reaches) ≡ fine
    → MeshTablesSay bs volumes firsts seconds shares reaches
unfolding mesh_length
mesh-tables-say bs volumes firsts seconds shares reaches e =
    let p = all-fine (mesh_table_causes bs volumes firsts seconds shares reaches) e in
    record { same_length = eqb-true _ _ (need-fine 11 0 _ p.0); mesh-long = long-says p.1 }

pub record FieldTablesSay (cells : ℕ) (bs : List ℕ) (masses : ℕ) : Type 0 where
  pub same_length : length bs ≡ bytes_for (field_bits (kind_in bs) cells)
  pub masses_long : cells ≤ masses

pub field-tables-say : (cells : ℕ) (bs : List ℕ) (masses : ℕ) → field_body_verdict cells bs masses ≡ fine → FieldTablesSay cells bs masses
unfolding field_body_verdict field_length
field-tables-say cells bs masses e =
    let p = all-fine (field_body_causes cells bs masses) e in
    record { same_length = eqb-true _ _ (need-fine 11 0 _ p.0); masses_long = long-fine 5 _ _ p.1.0 }

pub record StepTablesSay (cells faces : ℕ) (seconds bs : List ℕ) (fluxes outsides releases : ℕ) : Type 0 where
  pub same_length : length bs ≡ bytes_for (step_bits (kind_in bs) cells faces seconds)
  pub fluxes_long : faces ≤ fluxes
  pub outsides_long : faces ≤ outsides
  pub releases_long : cells ≤ releases

pub step-tables-say : (cells faces : ℕ) (seconds bs : List ℕ) (fluxes outsides releases : ℕ)
    → in_turn (step_table_causes cells faces seconds bs fluxes outsides releases) ≡ fine → StepTablesSay cells faces seconds bs fluxes outsides releases
unfolding step_length
step-tables-say cells faces seconds bs fluxes outsides releases e =
    let p = all-fine (step_table_causes cells faces seconds bs fluxes outsides releases) e in
    record {
      same_length = eqb-true _ _ (need-fine 11 0 _ p.0);
      fluxes_long = long-fine 6 _ _ p.1.0;
      outsides_long = long-fine 7 _ _ p.1.1.0;
      releases_long = long-fine 14 _ _ p.1.1.1.0;
    }

-- what a reading that is accepted has passed: a mesh
pub record ReadSays (most_cells most_faces : ℕ) (bs : List ℕ) (n : MeshCounts) (v f s g k : ℕ) : Type 0 where
  pub counts_are : n ≡ counts_in bs
  pub head : MeshHeadSays most_cells most_faces bs
  pub tables : MeshTablesSay bs v f s g k
  pub zeros : each 12 (8 * length bs) (mesh_bit_good bs) ≡ fine

pub read-says : (most_cells most_faces : ℕ) (bs : List ℕ) (v f s g k : ℕ) {n : MeshCounts} → mesh_read most_cells most_faces bs v f s g k ≡ accepted n
    → ReadSays most_cells most_faces bs n v f s g k
unfolding mesh_read mesh_body_verdict ◌and_then◌
read-says most_cells most_faces bs v f s g k e =
    let a = both-fine (mesh_head_verdict most_cells most_faces bs and_then mesh_body_verdict bs v f s g k) (accepted (counts_in bs)) e in
    let b = both-fine (mesh_head_verdict most_cells most_faces bs) (mesh_body_verdict bs v f s g k) a.0 in
    let d = both-fine (in_turn (mesh_table_causes bs v f s g k)) (each 12 (8 * length bs) (mesh_bit_good bs)) b.1 in
    record { counts_are = cc; head = mesh-head-says most_cells most_faces bs b.0; tables = mesh-tables-say bs v f s g k d.0; zeros = d.1 }

-- a field
pub record FieldReadSays (w : Width) (cells : ℕ) (bs : List ℕ) (m : ℕ) : Type 0 where
  pub head : FieldHeadSays w cells bs
  pub tables : FieldTablesSay cells bs m

pub field-read-says : (w : Width) (cells : ℕ) (bs : List ℕ) (m : ℕ) → field_read w cells bs m ≡ fine → FieldReadSays w cells bs m
unfolding field_read
field-read-says w cells bs m e =
    let p = both-fine _ _ e in record { head = field-head-says w cells bs p.0; tables = field-tables-say cells bs m p.1 }

-- a step
pub record StepReadSays (w : Width) (cells faces : ℕ) (seconds bs : List ℕ) (n u x y : ℕ) : Type 0 where
  pub kind_is : n ≡ kind_in bs
  pub head : StepHeadSays w cells faces seconds bs
  pub tables : StepTablesSay cells faces seconds bs u x y
  pub zeros : each 12 (8 * length bs) (step_bit_good bs cells faces seconds) ≡ fine

pub step-read-says : (w : Width) (cells faces : ℕ) (seconds bs : List ℕ) (u x y : ℕ) {n : ℕ} → step_read w cells faces seconds bs u x y ≡ accepted n
    → StepReadSays w cells faces seconds bs n u x y
unfolding step_read step_body_verdict ◌and_then◌
step-read-says w cells faces seconds bs u x y e =
    let a = both-fine (step_head_verdict w cells faces seconds bs and_then step_body_verdict cells faces seconds bs u x y) (accepted (kind_in bs)) e in
    let b = both-fine (step_head_verdict w cells faces seconds bs) (step_body_verdict cells faces seconds bs u x y) a.0 in
    let d = both-fine (in_turn (step_table_causes cells faces seconds bs u x y)) (each 12 (8 * length bs) (step_bit_good bs cells faces seconds)) b.1 in
    record { kind_is = cc; head = step-head-says w cells faces seconds bs b.0; tables = step-tables-say cells faces seconds bs u x y d.0; zeros = d.1 }

-- the answer and the tables
module _ {bs : List ℕ} {lent : Mesh} {o : Outcome MeshCounts} where
  pub mesh_refused : {r : Refusal} → o ≡ told r → MeshReading o bs lent (Err r) lent
  mesh_refused e = record { answer = sym e; mesh-read = rw e }

  pub mesh_accepted : {n : MeshCounts} {left : Mesh} → o ≡ accepted n → left ≡ over_mesh (mesh_in bs) lent → MeshReading o bs lent (Ok n) left
  mesh_accepted e d = record { answer = sym e; mesh-read = rw e d }

module _ {cells : ℕ} {bs m : List ℕ} {o : Verdict} where
  pub field_refused : {r : Refusal} → o ≡ told r → FieldReading o cells bs m (Err r) m
  field_refused e = record { answer = sym e; masses_read = rw e }

  pub field_accepted : {m' : List ℕ} → o ≡ fine → m' ≡ over (masses_in bs cells) m → FieldReading o cells bs m (Ok tt) m'
  field_accepted e d = record { answer = sym e; masses_read = rw e d }

module _ {w : Width} {cells faces : ℕ} {seconds bs : List ℕ} {u : List ℤ} {x y : List ℕ} {o : Outcome ℕ} where
  pub step-refused : {r : Refusal} → o ≡ told r → StepReading w o cells faces seconds bs u x y (Err r) u x y
  step-refused e = record { answer = sym e; fluxes_read = rw e; outsides_read = rw e; releases_read = rw e }

  pub step-accepted : {k : StepKind} {u' : List ℤ} {x' y' : List ℕ} → o ≡ accepted (kind_number w k)
      → StepFilled faces bs (step_shape_in bs cells faces seconds) 1 u x y u' x' y'
      → StepReading w o cells faces seconds bs u x y (Ok k) u' x' y'
  unfolding fluxes_in outsides_in releases_in
  step-accepted e d = record {
    answer = sym e;
    fluxes_read = rw e d.fluxes_full;
    outsides_read = rw e d.outsides_full;
    releases_read =
        rw e d.releases_full;
  }
