-- What the call comes to where nothing is refused, from what the readings, the step and the putting promise.
use Prim.Native.Nat.{ℕ, ◌≤◌}
use mathlib.Core.Path.{◌≡◌, refl, sym, ap, ◌∙◌}
use mathlib.Core.Bool.{Bool, true, false, true≢false}
use mathlib.Core.List.{List, [], ◌∷◌}
use native.Mathlib.Nat.{le_refl}
use native.Mathlib.Omega.{arith}
use borrow.Author.Tests.{le-leb}
use lib.IntN.{ℤ}
use lib.ListN.{length, take}
use Rattle.lists.specs.Table.{table, over}
use Rattle.model.specs.Mesh.{Mesh, run_cells, run_faces, max_cells, max_faces, ceiling}
use Rattle.model.specs.Meshes.{parted}
use Rattle.model.specs.Step.{StepInput, next}
use Rattle.model.specs.Causes.{fine, each, long, Call, call_of, input_of, counts_within, counts, mesh_long, mesh_tables, volume_good, mesh_causes, mesh_values, field_table, salt_good, field_values, mesh_field_verdict, verdict, cells_only}
use Rattle.model.proofs.Verdicts.{all-fine, fine-all, both-fine, past, passes, long-fine, long-met, need-met}
use Rattle.model.proofs.Accepted.{Passed, passed, counted, all-long, mesh_lent, lent-mesh}
use Rattle.transport.specs.Promise.{StepMade}
use Rattle.transport.specs.declared.Crossed.{Crossed}
use Rattle.record_layouts.specs.Layouts.{field_kind, field_record, field_length}
use Rattle.record_heads.specs.Heads.{kind_in, width_in, cells_in, faces_in, has_length, field_head_verdict}
use Rattle.record_layouts.specs.declared.Width.{Width}
use Rattle.record_layouts.specs.declared.StepKind.{StepKind}
use Rattle.record_reading.specs.Reading.{mesh_in, masses_in, fluxes_in, outsides_in, releases_in, field_body_verdict, field_read, step_read}
use Rattle.record_reading.specs.Answers.{counting, FieldReading, StepReading}
use Rattle.record_reading.specs.declared.MeshCounts.{MeshCounts}
use Rattle.record_putting.specs.Putting.{FieldWhole, Wrote}
use Rattle.record_writing.specs.Writing.{most_of}
use Rattle.record_writing.proofs.WriteLaws.{field-whole}
use Rattle.model.proofs.Parts.{PartRead, read-part}
use Rattle.taking_mesh.specs.MeshTaking.{mesh_record_found, mesh_judged, mesh_judged_in_run}
use Rattle.taking_mesh.proofs.MeshLaws.{MeshIsRead, within-long, limits}
use Rattle.taking.specs.Taking.{field_judged, step_in, step_judged}
use Rattle.taking.proofs.StepLaws.{own-fine, crossed, nexts-part, fluxes-part, outsides-part, releases-part, few, found-fine}
use Rattle.lagoon_straight.specs.Straight.{Put, Unrefused, RecordsPut}
use Rattle.lagoon_straight.specs.Inner.{StepHolds, StepPut, MeshHolds, MeshPut}
use Rattle.lagoon_straight.proofs.Writer.{write-is, record-within}
use Rattle.std.specs.Prelude.{Result, Ok, Err}
use Rattle.std.specs.Result.{is_err}
use Rattle.model.specs.declared.Refusal.{Refusal}

-- not done, and done
pub undone : {Holds : Type 0} {w : Width} {S : StepInput} {bytes : List ℕ} → Put Holds w S bytes false bytes
undone = record { done = λ e. absurd (true≢false (sym e)); left = λ e. refl }

pub put-done : {Holds : Type 0} {w : Width} {S : StepInput} {bytes bytes' : List ℕ} → Holds
    → bytes' ≡ over (field_record (field_kind w) S.mesh.cells (table S.mesh.cells (next S))) bytes → Put Holds w S bytes true bytes'
put-done h q = record { done = λ e. (h, q); left = λ e. absurd (true≢false e) }

-- an answer that is asked whether it refuses, and does not
pub answers : {T E : Type 0} {b : Bool} (r : Result T E) → b ≡ is_err r → b ≡ false → (x : T) × (r ≡ Ok x)
answers (Ok x) q e = (x, refl)
answers (Err y) q e = absurd (true≢false (sym q ∙ e))

-- a step of which nothing is found
module _ {M : Mesh} {masses : List ℕ} {fluxes : List ℤ} {outsides nexts : List ℕ} {moveds : List ℤ} {work releases : List ℕ} {a : Result Crossed Refusal}
    {nexts' : List ℕ} (p : StepMade M masses (call_of fluxes outsides nexts moveds work releases) a nexts') {b : Crossed}
    (d : a ≡ Ok b) where
  abbrev k : Call
  k = call_of fluxes outsides nexts moveds work releases

  pub few_cells : M.cells ≤ max_cells
  few_cells = (counted M (passed M masses k (crossed p d).0).counts_fine).few_cells

  module _ (w : Width) (within : mesh_values (most_of w) M ≡ mesh_values ceiling M) {n : ℕ} (q : n ≡ field_length (field_kind w) M.cells) (bytes : List ℕ)
      (h : n ≤ length bytes) where
    room_fine : long 11 (field_length (field_kind w) M.cells) (length bytes) ≡ fine
    room_fine = let g : field_length (field_kind w) M.cells ≤ length bytes = rw q at h in long-met 11 _ _ g

    next-whole : FieldWhole (field_kind w) M.cells (table M.cells (next (input_of M masses k))) bytes
    next-whole = field-whole w M _ (write-is w M within masses k (crossed p d).0 (length bytes) ∙ room_fine)

    pub put-asks : FieldWhole (field_kind w) M.cells (take M.cells nexts') bytes
    put-asks = rw (nexts-part p d).part next-whole

    pub step-put : {bytes' : List ℕ} {r : ℕ} → Wrote bytes (field_record (field_kind w) M.cells (take M.cells nexts')) (field_length (field_kind w)
        M.cells) bytes' r
        → StepPut w M masses k bytes true bytes'
    step-put {bytes' = bytes'} {r = r} o =
        let u : Wrote bytes (field_record (field_kind w) M.cells (table M.cells (next (input_of M masses k)))) (field_length (field_kind w)
        M.cells) bytes' r =
        rw (nexts-part p d).part at o in
        let v : StepHolds w M masses k (length bytes) = record { step_holds = (crossed p d).0; room_holds = room_fine } in
        put-done v u.written

-- a field record that is read into a table, which may be shorter than the run's
module _ (w : Width) {cells : ℕ} {bs own own' : List ℕ} {a : Result (Unit {0}) Refusal} (s : FieldReading (field_read w cells bs (length own)) cells bs own a own')
    (d : a ≡ Ok tt) where
  field_fine : field_read w cells bs (length own) ≡ fine
  field_fine = passes s.answer d

  parts-fine : (field_head_verdict w cells bs ≡ fine) × (has_length bs (field_length (kind_in bs) cells) ≡ fine) × (long 5 cells (length own) ≡ fine)
  unfolding field_read field_body_verdict
  parts-fine = let p = both-fine _ _ field_fine in let q = both-fine _ _ p.1 in (p.0, q.0, q.1)

  pub masses-part : PartRead cells (masses_in bs cells) own'
  unfolding masses_in
  masses-part = read-part cells _ own own' field_fine (long-fine 5 _ _ parts-fine.2) s.masses_read

  pub field_found : cells ≤ run_cells → field_read w cells bs run_cells ≡ fine
  unfolding field_read field_body_verdict
  field_found h = past _ parts-fine.0 ∙ past _ parts-fine.1 ∙ long-met 5 _ _ h

-- from the field record on
module _ (w : Width) (M : Mesh) (field step bytes : List ℕ) {own own' : List ℕ} {a : Result (Unit {0}) Refusal} (f : FieldReading (field_read w M.cells field (length own))
    M.cells field own a own') (fd : a ≡ Ok tt)
    {fluxes : List ℤ} {outsides releases : List ℕ} {b : Result StepKind Refusal} {fluxes' : List ℤ} {outsides' releases' : List ℕ}
    (s : StepReading w (step_read w M.cells M.faces M.seconds step (length fluxes) (length outsides) (length releases)) M.cells M.faces
    M.seconds step
    fluxes outsides releases b fluxes' outsides' releases') {kind : StepKind} (sd : b ≡ Ok kind)
    (faces : length fluxes ≤ run_faces) (cells : length releases ≤ run_cells) where
  abbrev masses : List ℕ
  masses = masses_in field M.cells

  pub mesh-put : {nexts : List ℕ} {moveds : List ℤ} {work : List ℕ} {r : Bool} {bytes' : List ℕ}
      → StepPut w M (take M.cells own') (call_of (take M.faces fluxes') (take M.faces outsides') nexts moveds work (take
      M.cells releases')) bytes r bytes'
      → MeshPut w M field step bytes r bytes'
  mesh-put {nexts = nexts} {moveds = moveds} {work = work} {r = r} {bytes' = bytes'} p =
      let l = few w M masses s sd faces cells in
      let u : StepPut w M masses (call_of (fluxes_in step M.faces) (outsides_in step M.faces M.seconds) nexts moveds work (releases_in step M.cells
      M.faces M.seconds)) bytes r bytes' =
      rw ((masses-part w f fd).part, (fluxes-part w M masses s sd).part, (outsides-part w M masses s sd).part, (releases-part w M masses s sd).part) at p in
      record {
        done = λ e.
            let x = u.done e in
            let v : StepHolds w M masses (step_in M step) (length bytes) =
            record { step_holds = own-fine M masses _ _ _ _ _ _ l.0 l.1 x.0.step_holds; room_holds = x.0.room_holds } in
            (record { field-read = field_found w f fd l.0; step-read = found-fine w M masses s sd faces cells; values_hold = v }, x.1);
        left = u.left;
      }

-- a mesh of which nothing is found has no fault in its cells alone
module _ (M : Mesh) (masses : List ℕ) (k : Call) (e : verdict M masses k ≡ fine) where
  abbrev C : Mesh
  C = cells_only M.cells M.volumes

  P : Passed M masses k
  P = passed M masses k e

  cells-counted : counts C ≡ fine
  unfolding counts counts_within
  cells-counted = past _ (both-fine _ _ P.counts_fine).0 ∙ need-met 1 1 (le-leb 0 max_faces (omega arith))

  cells-lent : mesh_tables C ≡ fine
  cells-lent =
      let l = mesh_lent M P.mesh_tables_fine in
      lent-mesh C (record {
        volumes_long = l.volumes_long;
        firsts_long = le_refl 0;
        seconds_long = le_refl 0;
        shares_long = le_refl 0;
        reaches_long = le_refl 0;
      })

  cells-sized : mesh_values ceiling C ≡ fine
  unfolding mesh_values volume_good each
  cells-sized = fine-all (mesh_causes ceiling C) ((all-fine (mesh_causes ceiling M) P.mesh_values_fine).0, (refl, (refl, tt)))

  pub cells-fine : mesh_field_verdict C masses ≡ fine
  unfolding mesh_field_verdict field_table field_values salt_good
  cells-fine = fine-all (counts C ∷ mesh_tables C ∷ field_table C masses ∷ mesh_values ceiling C ∷ field_values C masses ∷ [])
      (cells-counted, (cells-lent, (P.field_table_fine, (cells-sized, (P.field_values_fine, tt)))))

-- the three records
module _ (mesh field step : List ℕ) (found : mesh_record_found mesh ≡ fine) {room : ℕ} (h : MeshHolds (width_in mesh) (mesh_in mesh) field step room) where
  v : verdict (mesh_in mesh) (masses_in field (cells_in mesh)) (step_in (mesh_in mesh) step) ≡ fine
  v = h.values_hold.step_holds

  mesh-found : mesh_judged_in_run mesh ≡ fine
  unfolding mesh_judged
  mesh-found =
      let l = limits mesh found in
      let t = fine-all (mesh_long (cells_in mesh) (faces_in mesh) run_cells run_faces run_faces run_faces run_faces)
      (all-long (within-long l.few_cells l.few_faces)) in
      past _ (past _ found ∙ t) ∙ (passed _ _ _ v).mesh_values_fine

  field-judged : field_judged (width_in mesh) (cells_in mesh) (mesh_in mesh).volumes field run_cells ≡ fine
  unfolding field_judged
  field-judged = past _ (past _ h.field-read ∙ long-met 5 _ _ (limits mesh found).few_cells) ∙ cells-fine (mesh_in mesh) _ _ v

  step-judged : step_judged (width_in mesh) (mesh_in mesh) (masses_in field (cells_in mesh)) step ≡ fine
  unfolding step_judged
  step-judged = past _ h.step-read ∙ v

  unrefused : Unrefused mesh field step room
  unrefused = record { mesh_fine = mesh-found; field_fine = field-judged; step_fine = step-judged; room_fine = h.values_hold.room_holds }

put-from : (mesh field step bytes : List ℕ) → mesh_record_found mesh ≡ fine → (w : Width) → w ≡ width_in mesh → (M : Mesh) → M ≡ mesh_in mesh → {r : Bool}
    {bytes' : List ℕ}
    → MeshPut w M field step bytes r bytes' → RecordsPut mesh field step bytes r bytes'
put-from mesh field step bytes found w d M e {r = r} {bytes' = bytes'} c =
    let x : MeshPut (width_in mesh) (mesh_in mesh) field step bytes r bytes' = rw (d, e) at c in
    record { done = λ t. (unrefused mesh field step found (x.done t).0, (x.done t).1); left = x.left }

module _ {mesh : List ℕ} {n : MeshCounts} {left : Mesh} (m : MeshIsRead mesh n left) where
  width_read : n.width ≡ width_in mesh
  width_read = ap (λ (k : MeshCounts). k.width) m.counts_are

  pub mesh-within : mesh_values (most_of n.width) (parted (counting n left)) ≡ mesh_values ceiling (parted (counting n left))
  mesh-within = rw (width_read, m.same) (record-within mesh)

  pub records-put : (field step bytes : List ℕ) {r : Bool} {bytes' : List ℕ} → MeshPut n.width (parted (counting n left)) field step bytes r bytes'
      → RecordsPut mesh field step bytes r bytes'
  records-put field step bytes c = put-from mesh field step bytes m.passed n.width width_read (parted (counting n left)) m.same c
