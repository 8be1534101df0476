-- The calls that cut a lagoon in records, from what the calls below them promise.
use Prim.Native.Nat.{ℕ}
use mathlib.Core.Path.{◌≡◌, sym, ap, ◌∙◌}
use mathlib.Core.List.{List}
use lib.IntN.{ℤ}
use lib.ListN.{length, take}
use Rattle.lists.specs.Table.{over}
use Rattle.model.specs.Mesh.{Mesh, run_cells, run_faces}
use Rattle.model.specs.Meshes.{parted}
use Rattle.model.specs.Causes.{Outcome, accepted, Verdict, fine, ◌and_then◌, granted}
use Rattle.model.specs.Answers.{told}
use Rattle.model.specs.declared.Refusal.{Refusal}
use Rattle.model.proofs.Verdicts.{both-fine, past, out}
use Rattle.cutting_parts.specs.Cut.{Lagoon}
use Rattle.record_layouts.specs.Layouts.{kind_number}
use Rattle.record_layouts.specs.declared.Width.{Width}
use Rattle.record_layouts.specs.declared.StepKind.{StepKind}
use Rattle.record_heads.specs.Heads.{kind_in, width_in}
use Rattle.record_reading.specs.Reading.{fluxes_in, outsides_in, releases_in, step_read}
use Rattle.record_reading.specs.Answers.{StepReading}
use Rattle.taking.proofs.StepLaws.{fluxes-part, outsides-part, releases-part}
use Rattle.host_tested.specs.Tested.{field_tested}
use Rattle.host_taking.specs.Taken.{RecordsTaking}
use Rattle.host_taking.specs.declared.FieldCounts.{FieldCounts}
use Rattle.host_taking.proofs.Held.{tested-fine, counted_by, all-as}
use Rattle.host_record_promises.proofs.Read.{unread, read-fine, kind-read}
use Rattle.host_cut_promises.specs.Cut.{Records, records_of, lengths_of, records_over, piece, lagoon_on}
use Rattle.host_cut_promises.specs.Inner.{writers_find, records_find, cut_judged, Wrote, PieceWritten, CutWritten, CutIn, CutOn, CutTaking}
use Rattle.host_cut_promises.specs.declared.PartLengths.{PartLengths}
use Rattle.host_cut_promises.specs.declared.CutLengths.{CutLengths}
use Rattle.std.specs.Prelude.{Result, Ok, Err}

-- a cutting that is refused, and one after a verdict that is fine
pub cut-refused : {v : Verdict} (w : Width) (kind : ℕ) (L : Lagoon) (labels : List ℕ) (lent₀ lent₁ : Records) (r : Refusal)
    → (v and_then records_find w kind L labels lent₀ lent₁) ≡ told r → CutWritten v w kind L labels lent₀ lent₁ (Err r) lent₀ lent₁
cut-refused {v = v} w kind L labels lent₀ lent₁ r e = record { answer = sym (out _ e); part_0 = rw e; part_1 = rw e }

pub cut-past : {u v : Verdict} {w : Width} {kind : ℕ} {L : Lagoon} {labels : List ℕ} {lent₀ lent₁ : Records} {r : Result CutLengths Refusal}
    {after₀ after₁ : Records} → u ≡ fine
    → CutWritten v w kind L labels lent₀ lent₁ r after₀ after₁ → CutWritten (u and_then v) w kind L labels lent₀ lent₁ r after₀ after₁
cut-past {v = v} e p = rw (past v e) p

-- a record whose writer finds nothing
wrote-over : {v : Verdict} {n : ℕ} {written bytes : List ℕ} {k : ℕ} {bytes' : List ℕ} → v ≡ fine → Wrote v n written bytes k bytes'
    → bytes' ≡ over written bytes
wrote-over e x = rw e at x.left

-- one part
module _ {w : Width} {kind : ℕ} {P : Lagoon} {mesh field step : List ℕ} {r : PartLengths} {mesh' field' step' : List ℕ}
    (e : writers_find w kind P (length mesh) (length field) (length step) ≡ fine)
    (p : PieceWritten w kind P (records_of mesh field step) r (records_of mesh' field' step')) where
  piece-long : (r.mesh ≡ (lengths_of w kind P).mesh) × (r.field ≡ (lengths_of w kind P).field) × (r.step ≡ (lengths_of w kind P).step)
  piece-long =
      let q = both-fine _ _ e in
      let m = both-fine _ _ q.0 in
      (p.mesh_wrote.takes m.0, p.field_wrote.takes m.1, p.step_wrote.takes q.1)

  piece-over : records_of mesh' field' step' ≡ records_over w kind P (records_of mesh field step)
  piece-over =
      let q = both-fine _ _ e in
      let m = both-fine _ _ q.0 in
      rw (wrote-over m.0 p.mesh_wrote, wrote-over m.1 p.field_wrote, wrote-over q.1 p.step_wrote)

-- both parts' bytes, as they are answered
abbrev pub counted-both : PartLengths → PartLengths → CutLengths
counted-both a b = record { mesh_0 = a.mesh; field_0 = a.field; step_0 = a.step; mesh_1 = b.mesh; field_1 = b.field; step_1 = b.step }

six-are : {a b c d e f g h i j k l : ℕ} → (a ≡ g) × (b ≡ h) × (c ≡ i) → (d ≡ j) × (e ≡ k) × (f ≡ l)
    → ◌≡◌ {A = Outcome CutLengths} (accepted (record { mesh_0 = a; field_0 = b; step_0 = c; mesh_1 = d; field_1 = e; step_1 = f }))
    (accepted (record { mesh_0 = g; field_0 = h; step_0 = i; mesh_1 = j; field_1 = k; step_1 = l }))
six-are p q = rw (p.0, p.1, p.2, q.0, q.1, q.2)

module _ {v : Verdict} {w : Width} {kind : ℕ} {L : Lagoon} {labels : List ℕ} {m₀ f₀ s₀ m₁ f₁ s₁ m₀' f₀' s₀' m₁' f₁' s₁' : List ℕ} {a b : PartLengths}
    (e : (v and_then records_find w kind L labels (records_of m₀ f₀ s₀) (records_of m₁ f₁ s₁)) ≡ fine)
    (p : PieceWritten w kind (piece L labels 0) (records_of m₀ f₀ s₀) a (records_of m₀' f₀' s₀'))
    (q : PieceWritten w kind (piece L labels 1) (records_of m₁ f₁ s₁) b (records_of m₁' f₁' s₁')) where
  pub cut-done : CutWritten v w kind L labels (records_of m₀ f₀ s₀) (records_of m₁ f₁ s₁) (Ok (counted-both a b)) (records_of m₀' f₀' s₀')
      (records_of m₁' f₁' s₁')
  cut-done =
      let h = both-fine _ _ (both-fine v _ e).1 in
      record {
        answer = six-are (piece-long h.0 p) (piece-long h.1 q) ∙ sym (past _ e);
        part_0 = piece-over h.0 p ∙ sym
            (ap (λ (v : Verdict). granted v (records_over w kind (piece L labels 0) (records_of m₀ f₀ s₀)) (records_of m₀ f₀ s₀)) e);
        part_1 = piece-over h.1 q ∙ sym
            (ap (λ (v : Verdict). granted v (records_over w kind (piece L labels 1) (records_of m₁ f₁ s₁)) (records_of m₁ f₁ s₁)) e);
      }

-- the step's record read
module _ (w : Width) (M : Mesh) (masses step labels : List ℕ) (lent₀ lent₁ : Records) {fluxes : List ℤ} {outsides releases : List ℕ} {a : Result StepKind Refusal}
    {fluxes' : List ℤ} {outsides' releases' : List ℕ}
    (s : StepReading w (step_read w M.cells M.faces M.seconds step (length fluxes) (length outsides) (length releases)) M.cells M.faces
    M.seconds step
    fluxes outsides releases a fluxes' outsides' releases')
    (fl : length fluxes ≡ run_faces) (ol : length outsides ≡ run_faces) (rl : length releases ≡ run_cells) where
  pub on-unread : {r : Refusal} → a ≡ Err r → CutOn w M masses step labels lent₀ lent₁ (Err r) lent₀ lent₁
  unfolding cut_judged
  on-unread {r = r} d = cut-refused w (kind_in step) _ labels lent₀ lent₁ r (out _ (out _ (unread w M s fl ol rl d)))

  pub on_read : {kind : StepKind} → a ≡ Ok kind → {r : Result CutLengths Refusal} {after₀ after₁ : Records}
      → CutIn w (kind_number w kind) (lagoon_on M masses (take M.faces fluxes') (take M.faces outsides') (take M.cells releases')) labels lent₀ lent₁ r
      after₀ after₁ → CutOn w M masses step labels lent₀ lent₁ r after₀ after₁
  unfolding cut_judged
  on_read {kind = kind} d {r = r} {after₀ = after₀} {after₁ = after₁} p =
      let x : CutIn w (kind_in step) (lagoon_on M masses (fluxes_in step M.faces) (outsides_in step M.faces M.seconds)
      (releases_in step M.cells M.faces M.seconds)) labels lent₀ lent₁ r after₀ after₁ =
      rw ((fluxes-part w M masses s d).part, (outsides-part w M masses s d).part, (releases-part w M masses s d).part, kind-read w M s fl ol rl d) at p in
      cut-past (read-fine w M s fl ol rl d) x

module _ (mesh field step labels : List ℕ) (lent₀ lent₁ : Records) where
  pub records-refused : {r : Refusal} → field_tested mesh field ≡ told r → CutTaking mesh field step labels lent₀ lent₁ (Err r) lent₀ lent₁
  records-refused {r = r} e = cut-refused (width_in mesh) (kind_in step) _ labels lent₀ lent₁ r (out _ (out _ e))

  pub records-taken : {a : Result FieldCounts Refusal} {left : Mesh} {masses : List ℕ} (t : RecordsTaking mesh field a left masses) {n : FieldCounts} (d : a ≡ Ok n)
      {r : Result CutLengths Refusal} {after₀ after₁ : Records}
      → CutOn n.width (parted (counted_by n left)) (take n.cells masses) step labels lent₀ lent₁ r after₀ after₁
      → CutTaking mesh field step labels lent₀ lent₁ r after₀ after₁
  records-taken t d {r = r} {after₀ = after₀} {after₁ = after₁} p =
      cut-past (tested-fine mesh field t.answer d) (all-as mesh field t d (λ w M ms. CutOn w M ms step labels lent₀ lent₁ r after₀ after₁) p)
