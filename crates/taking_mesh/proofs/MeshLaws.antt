-- What a mesh record comes to, from what the calls that `take_mesh` and `keep` make promise. What is read has tables as long as its counts,
-- within the run's limits; so of the verdict on it only the values are left.
use Prim.Native.Nat.{ℕ, ◌^◌, ◌≤◌, ◌<◌, min}
use mathlib.Core.Path.{◌≡◌, refl, sym, ap, ◌∙◌, subst}
use mathlib.Core.List.{List, [], ◌∷◌}
use native.Mathlib.Nat.{le_trans, le_refl}
use native.Mathlib.Omega.{arith}
use lib.ListN.{length}
use Rattle.lists.proofs.Tables.{get_or-table}
use Rattle.model.specs.Mesh.{Mesh, run_cells, run_faces, max_cells, max_faces, ceiling, old_ceiling}
use Rattle.model.specs.Meshes.{over_mesh, parted, MeshCut}
use Rattle.model.specs.Accepted.{MeshLong, MeshLent}
use Rattle.model.specs.Causes.{Outcome, accepted, refused, Verdict, fine, ◌and_then◌, granted, in_turn, counts_within, counts, mesh_tables, mesh_values, mesh_verdict}
use Rattle.model.specs.Ceilings.{MeshSmall}
use Rattle.model.specs.Answers.{number}
use Rattle.model.specs.declared.Refusal.{Refusal}
use Rattle.model.proofs.Verdicts.{AllFine, all-fine, fine-all, refused-at, both-fine, past, out, refused-of, accepted-of}
use Rattle.model.proofs.Accepted.{all-long, lent-mesh}
use Rattle.model.proofs.Parts.{cut-lent, parted-cut, over-lent, over-parted}
use Rattle.record_bits.proofs.Fields.{bits-lt}
use Rattle.record_sections.specs.Sections.{place, entry_in}
use Rattle.record_layouts.specs.Layouts.{width_of, value_of, value_bits, mesh_shape}
use Rattle.record_heads.specs.Heads.{kind_in, width_in, cells_in, faces_in, mesh_head_causes, mesh_head_verdict}
use Rattle.record_heads.proofs.HeadLaws.{within-says, within-met, mesh-head-says}
use Rattle.record_layouts.specs.declared.Width.{Width}
use Rattle.record_layouts.specs.declared.Width.TheVariants.{Narrow}
use Rattle.record_reading.specs.Reading.{volumes_in, reaches_in, counts_in, mesh_in, mesh_table_causes, mesh_body_causes, mesh_body_verdict, mesh_read}
use Rattle.record_reading.specs.Answers.{mesh_said, counting, MeshReading}
use Rattle.record_reading.proofs.ReadLaws.{mesh_cut}
use Rattle.record_reading.specs.declared.MeshCounts.{MeshCounts}
use Rattle.taking_mesh.specs.MeshTaking.{mesh_record_found, mesh_room_causes, mesh_judged_causes, mesh_judged, mesh_judged_in_run, MeshKept, MeshTaking}
use Rattle.taking_mesh.specs.Inner.{kept_found}
use Rattle.std.specs.Prelude.{Result, Ok, Err}

-- a mesh of which v is found: refused, and accepted
pub kept-refused : {v : Verdict} (w : Width) (M lent : Mesh) (a : Result MeshCounts Refusal) (k i : ℕ) → v ≡ refused k i → mesh_said a ≡ refused k i
    → MeshKept v w M lent a lent
kept-refused w M lent a k i e s = record { answer = s ∙ sym (out _ e); mesh_after = rw e }

pub kept-accepted : {v : Verdict} (w : Width) (M lent : Mesh) {left : Mesh} → v ≡ fine → left ≡ over_mesh M lent
    → MeshKept v w M lent (Ok (record { cells = M.cells; faces = M.faces; width = w })) left
kept-accepted w M lent e d = record { answer = sym (past _ e); mesh_after = rw e d }

-- what a mesh of which nothing is found has passed
pub record MeshSays (bs : List ℕ) (volumes firsts seconds shares reaches : ℕ) : Type 0 where
  pub found : mesh_record_found bs ≡ fine
  pub room : in_turn (mesh_room_causes bs volumes firsts seconds shares reaches) ≡ fine
  pub values : mesh_values ceiling (mesh_in bs) ≡ fine

pub mesh-says : (bs : List ℕ) (volumes firsts seconds shares reaches : ℕ) → mesh_judged bs volumes firsts seconds shares reaches ≡ fine
    → MeshSays bs volumes firsts seconds shares reaches
unfolding mesh_judged
mesh-says bs volumes firsts seconds shares reaches e =
    let p = all-fine (mesh_judged_causes bs volumes firsts seconds shares reaches) e in
    record { found = p.0; room = p.1.0; values = p.1.1.0 }

-- a record that reading accepts
pub record Limits (bs : List ℕ) : Type 0 where
  pub some_cells : 1 ≤ cells_in bs
  pub few_cells : cells_in bs ≤ run_cells
  pub few_faces : faces_in bs ≤ run_faces

-- tables as long as the limits hold what is within them
pub within-long : {cells faces most-cells most-faces : ℕ} → cells ≤ most-cells → faces ≤ most-faces
    → MeshLong cells faces most-cells most-faces most-faces most-faces most-faces
within-long c f = record { volumes_long = c; firsts_long = f; seconds_long = f; shares_long = f; reaches_long = f }

-- V and K of 12 bits are within the old ceilings
value-narrow : (kind : ℕ) → width_of kind ≡ Narrow → value_bits kind ≡ value_of Narrow
unfolding value_bits
value-narrow kind e = ap value_of e

pub mesh-small : (bs : List ℕ) → width_in bs ≡ Narrow → MeshSmall (mesh_in bs)
unfolding volumes_in reaches_in
mesh-small bs e = record {
  small_volumes = λ c h. rw (get_or-table (cells_in bs) (entry_in bs (mesh_shape (kind_in bs) (cells_in bs) (faces_in bs)) 1 0) 0 c h)
      (narrow (bits-lt bs (place (mesh_shape (kind_in bs) (cells_in bs) (faces_in bs)) 1 0 c) (value_bits (kind_in bs))));
  small_reaches = λ f l. rw (get_or-table (faces_in bs) (entry_in bs (mesh_shape (kind_in bs) (cells_in bs) (faces_in bs)) 2 3) 0 f l)
      (narrow (bits-lt bs (place (mesh_shape (kind_in bs) (cells_in bs) (faces_in bs)) 2 3 f) (value_bits (kind_in bs))));
}
  where
    narrow : {v : ℕ} → v < 2 ^ value_bits (kind_in bs) → v ≤ old_ceiling
    narrow {v} l = let k : v < 2 ^ value_of Narrow = rw (value-narrow (kind_in bs) e) at l in omega arith

module _ (bs : List ℕ) (e : mesh_record_found bs ≡ fine) where
  pub limits : Limits bs
  unfolding mesh_record_found
  limits =
      let h = mesh-head-says run_cells run_faces bs (both-fine _ _ e).0 in
      record { some_cells = h.some_cells; few_cells = h.within_cells; few_faces = h.within_faces }

  counts-pass : counts_within max_cells max_faces (cells_in bs) (faces_in bs) ≡ fine
  counts-pass =
      let m = limits in
      within-met max_cells max_faces (cells_in bs) (faces_in bs) m.some_cells (omega (arith, m.few_cells)) (omega (arith, m.few_faces))

  tables-pass : mesh_tables (mesh_in bs) ≡ fine
  tables-pass = lent-mesh (mesh_in bs) (cut-lent (mesh_cut bs))

  pub values-left : mesh_verdict (mesh_in bs) ≡ mesh_values ceiling (mesh_in bs)
  unfolding mesh_verdict counts ◌and_then◌
  values-left = rw (counts-pass, tables-pass)

  found-is : (lent : Mesh) → kept_found lent (mesh_in bs)
      ≡ mesh_judged bs (length lent.volumes) (length lent.firsts) (length lent.seconds) (length lent.shares) (length lent.reaches)
  unfolding mesh_judged mesh_tables ◌and_then◌
  found-is lent = rw (values-left, e)

-- the tables read into: they hold the record's mesh, and no less than its counts
pub record MeshIsRead (bs : List ℕ) (n : MeshCounts) (left : Mesh) : Type 0 where
  pub passed : mesh_record_found bs ≡ fine
  pub counts_are : n ≡ counts_in bs
  pub held : MeshLent (counting n left)
  pub same : parted (counting n left) ≡ mesh_in bs

-- of a mesh laid over lent tables
pub is_read : {A : Type 0} {o : Outcome A} {x : A} (bs : List ℕ) (lent : Mesh) {left : Mesh} → mesh_record_found bs ≡ fine → o ≡ accepted x
    → left ≡ granted o (over_mesh (mesh_in bs) lent) lent → MeshIsRead bs (counts_in bs) left
is_read bs lent {left} found e q =
    let z : left ≡ over_mesh (mesh_in bs) lent = rw e at q in
    let c = mesh_cut bs in
    rw z (record { passed = found; counts_are = refl; held = over-lent (mesh_in bs) lent c; same = over-parted (mesh_in bs) lent c })

-- the tables read into are as long as the run's limits
module _ {bs : List ℕ} {lent left : Mesh} {a : Result MeshCounts Refusal}
    (s : MeshReading (mesh_read run_cells run_faces bs (length lent.volumes) (length lent.firsts) (length lent.seconds) (length lent.shares)
    (length lent.reaches)) bs lent a left)
    (lv : length lent.volumes ≡ run_cells) (lf : length lent.firsts ≡ run_faces) (ls : length lent.seconds ≡ run_faces)
    (lw : length lent.shares ≡ run_faces) (lk : length lent.reaches ≡ run_faces) where
  read-said : mesh_said a ≡ (mesh_record_found bs and_then accepted (counts_in bs))
  unfolding mesh_read mesh_record_found
  read-said = rw (lv, lf, ls, lw, lk) at s.answer

  pub mesh-unread : {r : Refusal} → a ≡ Err r → (N : Mesh) → MeshTaking bs N a N
  unfolding mesh_judged
  mesh-unread {r = r} d N =
      kept-refused (width_in bs) (mesh_in bs) N a _ _ (refused-at [] (_ ∷ _ ∷ []) tt
      (refused-of (mesh_record_found bs) (counts_in bs) (number r.cause) r.place (sym (ap mesh_said d) ∙ read-said))) (ap mesh_said d)

-- a mesh that is read within limits and into tables that may be less than the run's
module _ (most_cells most_faces : ℕ) {bs : List ℕ} {lent left : Mesh} {a : Result MeshCounts Refusal}
    (s : MeshReading (mesh_read most_cells most_faces bs (length lent.volumes) (length lent.firsts) (length lent.seconds) (length lent.shares)
    (length lent.reaches)) bs lent a left)
    (cells : min most_cells max_cells ≤ run_cells) (faces : min most_faces max_faces ≤ run_faces) {n : MeshCounts} (d : a ≡ Ok n) where
  read-fine : ((mesh_head_verdict most_cells most_faces bs and_then mesh_body_verdict bs (length lent.volumes) (length lent.firsts) (length lent.seconds)
      (length lent.shares) (length lent.reaches)) ≡ fine) × (n ≡ counts_in bs)
  unfolding mesh_read
  read-fine = accepted-of _ (counts_in bs) n (sym (ap mesh_said d) ∙ s.answer)

  head-fine : AllFine (mesh_head_causes most_cells most_faces bs)
  unfolding mesh_head_verdict
  head-fine = all-fine (mesh_head_causes most_cells most_faces bs) (both-fine _ _ read-fine.0).0

  body-fine : AllFine (mesh_body_causes bs (length lent.volumes) (length lent.firsts) (length lent.seconds) (length lent.shares)
      (length lent.reaches))
  unfolding mesh_body_verdict
  body-fine = all-fine (mesh_body_causes bs _ _ _ _ _) (both-fine _ _ read-fine.0).1

  within : (1 ≤ cells_in bs) × (cells_in bs ≤ run_cells) × (faces_in bs ≤ run_faces)
  within =
      let n = within-says (min most_cells max_cells) (min most_faces max_faces) (cells_in bs) (faces_in bs) head-fine.1.1.0 in
      (n.0, le_trans n.1 cells, le_trans n.2 faces)

  run-head : mesh_head_verdict run_cells run_faces bs ≡ fine
  unfolding mesh_head_verdict
  run-head = fine-all (mesh_head_causes run_cells run_faces bs)
      (head-fine.0, (head-fine.1.0, (within-met run_cells run_faces (cells_in bs) (faces_in bs) within.0 within.1 within.2, tt)))

  run-body : mesh_body_verdict bs run_cells run_faces run_faces run_faces run_faces ≡ fine
  unfolding mesh_body_verdict
  run-body = past _ (fine-all (mesh_table_causes bs run_cells run_faces run_faces run_faces run_faces) (body-fine.0, all-long (within-long within.1 within.2)))
      ∙ body-fine.1.1.1.1.1.1.0

  found : mesh_record_found bs ≡ fine
  unfolding mesh_record_found
  found = past _ run-head ∙ run-body

  pub read-within : MeshIsRead bs n left
  read-within = rw read-fine.1 (is_read bs lent found (sym s.answer ∙ ap mesh_said d) s.mesh-read)

-- within those of the run
pub mesh-read : {bs : List ℕ} {lent left : Mesh} {a : Result MeshCounts Refusal}
    → MeshReading (mesh_read run_cells run_faces bs (length lent.volumes) (length lent.firsts) (length lent.seconds) (length lent.shares)
    (length lent.reaches)) bs lent a left
    → {n : MeshCounts} → a ≡ Ok n → MeshIsRead bs n left
mesh-read s d = read-within run_cells run_faces s (le_refl run_cells) (le_refl run_faces) d

module _ {bs : List ℕ} {n : MeshCounts} {left : Mesh} (m : MeshIsRead bs n left) where
  pub parts_cut : MeshCut (parted (counting n left))
  parts_cut = parted-cut (counting n left) m.held

  pub mesh-done : {lent after : Mesh} {r : Result MeshCounts Refusal} → MeshKept (kept_found lent (parted (counting n left))) n.width (parted (counting n left)) lent r after
      → MeshTaking bs lent r after
  mesh-done {lent} {after} {r} t =
      let x = subst (λ (N : Mesh). MeshKept (kept_found lent N) n.width N lent r after) m.same t in
      let y : MeshKept (kept_found lent (mesh_in bs)) (width_in bs) (mesh_in bs) lent r after = rw m.counts_are at x in
      rw (found-is bs m.passed lent) at y

-- A mesh record taken into tables as long as the run's limits: what it is said to be, and the mesh of the counted parts.
module _ (bs : List ℕ) {lent left : Mesh} {a : Result MeshCounts Refusal} (t : MeshTaking bs lent a left)
    (lv : length lent.volumes ≡ run_cells) (lf : length lent.firsts ≡ run_faces) (ls : length lent.seconds ≡ run_faces)
    (lw : length lent.shares ≡ run_faces) (lk : length lent.reaches ≡ run_faces) where
  pub taken-said : mesh_said a ≡ (mesh_judged_in_run bs and_then accepted (counts_in bs))
  taken-said = let q = t.answer in rw (lv, lf, ls, lw, lk) at q

  module _ {n : MeshCounts} (d : a ≡ Ok n) where
    pub taken_fine : (mesh_judged_in_run bs ≡ fine) × (n ≡ counts_in bs)
    taken_fine = accepted-of (mesh_judged_in_run bs) (counts_in bs) n (sym (ap mesh_said d) ∙ taken-said)

    record-fine : mesh_record_found bs ≡ fine
    record-fine = (mesh-says bs run_cells run_faces run_faces run_faces run_faces taken_fine.0).found

    pub taken-read : MeshIsRead bs n left
    taken-read =
        let v : mesh_judged bs (length lent.volumes) (length lent.firsts) (length lent.seconds) (length lent.shares) (length lent.reaches)
        ≡ fine = rw (lv, lf, ls, lw, lk) taken_fine.0 in
        rw taken_fine.1 (is_read bs lent record-fine v t.mesh_after)
