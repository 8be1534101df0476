-- A step whose next masses are written: where nothing is found of it they are a field of the mesh, and the writer is left with nothing to refuse but
-- too few bytes.
use Prim.Native.Nat.{ℕ}
use mathlib.Core.Path.{◌≡◌, refl, sym, ap, ◌∙◌}
use mathlib.Core.List.{List}
use native.Mathlib.Nat.{le_trans}
use native.Mathlib.Omega.{arith}
use lib.ListN.{length, take}
use Rattle.lists.proofs.Tables.{length-table, get_or-table}
use Rattle.model.specs.Mesh.{Mesh, updated, ceiling}
use Rattle.model.specs.Meshes.{parted}
use Rattle.model.specs.Step.{mass}
use Rattle.model.specs.Causes.{accepted, refused, Verdict, fine, ◌and_then◌, Call, input_of, counts, mesh_tables, mesh_values, field_table, field_values, field_verdict, bytes_long}
use Rattle.model.specs.Answers.{number, told}
use Rattle.model.specs.Calls.{Crossing, Scheme, crossing_of, step_answer, next_table}
use Rattle.model.specs.declared.Refusal.{Refusal}
use Rattle.model.proofs.Verdicts.{both-fine, past, out, refused-of, accepted-of}
use Rattle.model.proofs.Accepted.{field_accepted, hi-most}
use Rattle.model.proofs.Ceilings.{old-meshes}
use Rattle.model.proofs.Lists.{Keeping}
use Rattle.transport.specs.Promise.{step_said}
use Rattle.transport.specs.declared.Crossed.{Crossed}
use Rattle.record_layouts.specs.Layouts.{field_kind, field_length}
use Rattle.record_heads.specs.Heads.{width_in}
use Rattle.record_layouts.specs.declared.Width.{Width}
use Rattle.record_layouts.specs.declared.Width.TheVariants.{Narrow, Wide}
use Rattle.record_reading.specs.Reading.{mesh_in}
use Rattle.record_writing.specs.Writing.{most_of, field_write_verdict, FieldWriting, write_said}
use Rattle.model.proofs.Parts.{PartRead, read-part}
use Rattle.taking_mesh.proofs.MeshLaws.{mesh-small}
use Rattle.host_taking.specs.Taken.{RecordsTaking}
use Rattle.host_taking.specs.declared.FieldCounts.{FieldCounts}
use Rattle.host_taking.proofs.Held.{width_is, counted_by, mesh-same}
use Rattle.host_record_promises.specs.Next.{with_room, NextWritten, next_by, StepWritten}
use Rattle.std.specs.Prelude.{Result, Ok, Err}

pub written-refused : {v : Verdict} (x : Crossing) (w : Width) (cells : ℕ) (next bytes : List ℕ) (r : Refusal) → v ≡ told r → NextWritten v x w cells next
    bytes (Err r) bytes
written-refused {v = v} x w cells next bytes r e =
    let q : with_room v w cells (length bytes) ≡ refused (number r.cause) r.place = out _ e in
    record { answer = sym (out _ q); bytes_after = rw q }

pub written-past : {u v : Verdict} {x : Crossing} {w : Width} {cells : ℕ} {next bytes : List ℕ} {r : Result Crossed Refusal} {bytes' : List ℕ} → u ≡ fine
    → NextWritten v x w cells next bytes r bytes' → NextWritten (u and_then v) x w cells next bytes r bytes'
written-past {v = v} e p = rw (past v e) p

then-fine : (v : Verdict) → (v and_then fine) ≡ v
unfolding ◌and_then◌
then-fine (accepted t) = refl
then-fine (refused k i) = refl

-- what the writer of a field asks of the mesh
pub record MeshPassed (M : Mesh) : Type 0 where
  pub counts_fine : counts M ≡ fine
  pub tables_fine : mesh_tables M ≡ fine
  pub values_fine : mesh_values ceiling M ≡ fine

module _ (s : Scheme) (keeping : Keeping s) (w : Width) (M : Mesh) (within : mesh_values (most_of w) M ≡ mesh_values ceiling M) (masses : List ℕ) (k : Call)
    (lent : s.finds M masses k ≡ fine → MeshPassed M) (bytes : List ℕ) where
  abbrev found : Verdict
  found = s.finds M masses k

  module _ (e : found ≡ fine) where
    next-fine : field_verdict M (next_by s M masses k) ≡ fine
    next-fine =
        let r = keeping.readies M masses k e in
        let after : ℕ → ℕ = updated M (mass (input_of M masses k)) (s.moves M masses k) in
        field_accepted M (next_by s M masses k) (omega (arith, length-table M.cells after))
        (λ c h. rw (get_or-table M.cells after 0 c h) (le_trans ((keeping.keeps M masses k e).bounds c h).1 (hi-most (input_of M masses k) r c h)))

    next-parts : (field_table M (next_by s M masses k) ≡ fine) × (field_values M (next_by s M masses k) ≡ fine)
    unfolding field_verdict
    next-parts = both-fine _ _ next-fine

    write-is : field_write_verdict w M (next_by s M masses k) (length bytes) ≡ bytes_long (field_length (field_kind w) M.cells) (length bytes)
    unfolding field_write_verdict ◌and_then◌
    write-is =
        let p = lent e in
        rw (p.counts_fine, p.tables_fine, next-parts.0, within, p.values_fine, next-parts.1)
        (ap (λ (v : Verdict). v and_then fine) (then-fine (bytes_long (field_length (field_kind w) M.cells) (length bytes))) ∙ then-fine
        (bytes_long (field_length (field_kind w) M.cells) (length bytes)))

    write-left : field_write_verdict w M (next_by s M masses k) (length bytes) ≡ with_room found w M.cells (length bytes)
    write-left = write-is ∙ sym (past _ e)

  module _ {a : Result Crossed Refusal} {next' : List ℕ} (p : step_said a ≡ step_answer s M k masses) (q : next' ≡ next_table s M k masses) where
    pub step-refused : {r : Refusal} → a ≡ Err r → StepWritten s M masses k found w bytes (Err r) bytes
    unfolding step_answer
    step-refused {r = r} d = written-refused _ w M.cells (next_by s M masses k) bytes r
        (refused-of found (crossing_of M masses k) (number r.cause) r.place (sym (ap step_said d) ∙ p))

    module _ {x : Crossed} (d : a ≡ Ok x) where
      crossed : (found ≡ fine) × (◌≡◌ {A = Crossing} (record { entered = x.entered; gone = x.gone; released = x.released }) (crossing_of M masses k))
      unfolding step_answer
      crossed = accepted-of found (crossing_of M masses k) _ (sym (ap step_said d) ∙ p)

      pub next-part : PartRead M.cells (next_by s M masses k) next'
      unfolding next_table
      next-part = read-part M.cells _ k.nexts next' crossed.0 (keeping.nexts_long M masses k crossed.0) q

      module _ {o : Result ℕ Refusal} {bytes' : List ℕ} (done : FieldWriting w M (take M.cells next') bytes o bytes') where
        wrote : FieldWriting w M (next_by s M masses k) bytes o bytes'
        wrote = rw next-part.part at done

        pub no_room : {r : Refusal} → o ≡ Err r → StepWritten s M masses k found w bytes (Err r) bytes'
        no_room {r = r} g =
            let e = refused-of (field_write_verdict w M (next_by s M masses k) (length bytes)) (field_length (field_kind w) M.cells) (number r.cause)
            r.place (sym (ap write_said g) ∙ wrote.answer) in
            record { answer = sym (out _ (sym (write-left crossed.0) ∙ e)); bytes_after = rw (← write-left crossed.0) wrote.bytes_written }

        pub written : {n : ℕ} → o ≡ Ok n → StepWritten s M masses k found w bytes (Ok x) bytes'
        written {n = n} g =
            let e = (accepted-of (field_write_verdict w M (next_by s M masses k) (length bytes)) (field_length (field_kind w) M.cells) n (sym (ap write_said g)
            ∙ wrote.answer)).0 in
            record {
              answer = ap accepted crossed.1 ∙ sym (past _ (sym (write-left crossed.0) ∙ e));
              bytes_after = rw (← write-left crossed.0) wrote.bytes_written;
            }

-- a mesh that stands in a record has no value above the ceiling of its width
record-within : (bs : List ℕ) → mesh_values (most_of (width_in bs)) (mesh_in bs) ≡ mesh_values ceiling (mesh_in bs)
record-within bs = go (width_in bs) refl
  where
    go : (w : Width) → width_in bs ≡ w → mesh_values (most_of w) (mesh_in bs) ≡ mesh_values ceiling (mesh_in bs)
    go Narrow e = sym (old-meshes (mesh_in bs) (mesh-small bs e))
    go Wide e = refl

pub within-taken : (mesh field : List ℕ) {a : Result FieldCounts Refusal} {left : Mesh} {masses : List ℕ} (t : RecordsTaking mesh field a left masses) {n : FieldCounts}
    (d : a ≡ Ok n) → mesh_values (most_of n.width) (parted (counted_by n left)) ≡ mesh_values ceiling (parted (counted_by n left))
within-taken mesh field t d = rw (width_is mesh field t.answer d, mesh-same mesh field t d) (record-within mesh)
