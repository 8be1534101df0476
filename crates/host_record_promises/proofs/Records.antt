-- A step on records by whichever scheme: the mesh and the field before it, and its record read into tables of the call's own. What differs is the call that
-- is made of these tables.
use Prim.Native.Nat.{ℕ}
use mathlib.Core.Path.{◌≡◌}
use mathlib.Core.List.{List}
use lib.IntN.{ℤ}
use lib.ListN.{length, take}
use Rattle.model.specs.Mesh.{Mesh, run_cells, run_faces}
use Rattle.model.specs.Meshes.{parted}
use Rattle.model.specs.Causes.{Verdict, ◌and_then◌, Call}
use Rattle.model.specs.Answers.{told}
use Rattle.model.specs.Calls.{Scheme}
use Rattle.model.specs.declared.Refusal.{Refusal}
use Rattle.model.proofs.Verdicts.{out}
use Rattle.record_heads.specs.Heads.{width_in}
use Rattle.record_layouts.specs.declared.Width.{Width}
use Rattle.record_layouts.specs.declared.StepKind.{StepKind}
use Rattle.record_reading.specs.Reading.{step_read, fluxes_in, outsides_in, releases_in, mesh_in}
use Rattle.record_reading.specs.Answers.{StepReading}
use Rattle.taking.specs.Taking.{step_record_found}
use Rattle.taking.proofs.StepLaws.{fluxes-part, outsides-part, releases-part}
use Rattle.host_tested.specs.Tested.{field_tested, field_in}
use Rattle.host_taking.specs.Taken.{RecordsTaking}
use Rattle.host_taking.specs.declared.FieldCounts.{FieldCounts}
use Rattle.host_taking.proofs.Held.{tested-fine, counted_by, all-as}
use Rattle.host_record_promises.specs.Next.{StepWritten}
use Rattle.host_record_promises.proofs.Next.{written-refused, written-past}
use Rattle.host_record_promises.proofs.Read.{unread, read-fine}
use Rattle.std.specs.Prelude.{Result, Ok, Err}
use Rattle.transport.specs.declared.Crossed.{Crossed}

module _ (s : Scheme) (call_on : List ℤ → List ℕ → List ℕ → Call) where
  -- on tables; the call of a record, and what is found of it on a mesh and a field
  abbrev pub On : Width → Mesh → List ℕ → Call → List ℕ → (Result Crossed Refusal) → List ℕ → Type 0
  On w M masses k = StepWritten s M masses k (s.finds M masses k) w

  abbrev pub call_in : Mesh → List ℕ → Call
  call_in M step = call_on (fluxes_in step M.faces) (outsides_in step M.faces M.seconds) (releases_in step M.cells M.faces M.seconds)

  abbrev pub found_on : Width → Mesh → (masses step : List ℕ) → Verdict
  found_on w M masses step = step_record_found w M step and_then s.finds M masses (call_in M step)

  abbrev pub OnRecord : Width → Mesh → (masses step : List ℕ) → List ℕ → (Result Crossed Refusal) → List ℕ → Type 0
  OnRecord w M masses step = StepWritten s M masses (call_in M step) (found_on w M masses step) w

  -- the record read
  module _ (w : Width) (M : Mesh) (masses step bytes : List ℕ) {fluxes : List ℤ} {outsides releases : List ℕ} {a : Result StepKind Refusal} {fluxes' : List ℤ}
      {outsides' releases' : List ℕ}
      (t : StepReading w (step_read w M.cells M.faces M.seconds step (length fluxes) (length outsides) (length releases)) M.cells M.faces
      M.seconds step fluxes outsides releases a fluxes' outsides' releases')
      (fl : length fluxes ≡ run_faces) (ol : length outsides ≡ run_faces) (rl : length releases ≡ run_cells) where
    pub on-unread : {r : Refusal} → a ≡ Err r → OnRecord w M masses step bytes (Err r) bytes
    on-unread {r = r} d = written-refused _ w M.cells _ bytes r (out _ (unread w M t fl ol rl d))

    pub on_read : {kind : StepKind} → a ≡ Ok kind → {r : Result Crossed Refusal} {bytes' : List ℕ}
        → On w M masses (call_on (take M.faces fluxes') (take M.faces outsides') (take M.cells releases')) bytes r bytes'
        → OnRecord w M masses step bytes r bytes'
    on_read d {r = r} {bytes' = bytes'} p =
        let x : On w M masses (call_in M step) bytes r bytes' =
        rw ((fluxes-part w M masses t d).part, (outsides-part w M masses t d).part, (releases-part w M masses t d).part) at p in
        written-past (read-fine w M t fl ol rl d) x

  -- the mesh and the field before it
  module _ (mesh field step bytes : List ℕ) where
    abbrev pub OnRecords : Result Crossed Refusal → List ℕ → Type 0
    OnRecords = StepWritten s (mesh_in mesh) (field_in mesh field) (call_in (mesh_in mesh) step)
        (field_tested mesh field and_then found_on (width_in mesh) (mesh_in mesh) (field_in mesh field) step) (width_in mesh) bytes

    pub records-refused : {r : Refusal} → field_tested mesh field ≡ told r → OnRecords (Err r) bytes
    records-refused {r = r} e = written-refused _ (width_in mesh) (mesh_in mesh).cells _ bytes r (out _ e)

    pub records-taken : {a : Result FieldCounts Refusal} {left : Mesh} {masses : List ℕ} (t : RecordsTaking mesh field a left masses) {n : FieldCounts} (d : a ≡ Ok n)
        {r : Result Crossed Refusal} {bytes' : List ℕ} → OnRecord n.width (parted (counted_by n left)) (take n.cells masses) step bytes r bytes'
        → OnRecords r bytes'
    records-taken t d {r = r} {bytes' = bytes'} p =
        written-past (tested-fine mesh field t.answer d) (all-as mesh field t d (λ w M ms. OnRecord w M ms step bytes r bytes') p)
