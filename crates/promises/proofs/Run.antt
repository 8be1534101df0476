-- The steps of a run, each by the contract of `take_step`, are a list of calls that were made one after another, on a mesh and a first field
-- that are accepted; so demand 3 holds of every run.
use Prim.Native.Nat.{ℕ, suc, ◌≤◌}
use mathlib.Core.Path.{◌≡◌, refl, sym, ap, ◌∙◌}
use mathlib.Core.Bool.{Bool, true, false}
use mathlib.Core.List.{List, []}
use native.Mathlib.Omega.{arith}
use lib.Dec.{leb}
use lib.ListN.{length, drop, get_or}
use lib.Seq.{ext_get_or}
use Rattle.lists.specs.Table.{table, over}
use Rattle.lists.proofs.Tests.{Fits, fits, exceeds, fits?}
use Rattle.lists.proofs.Tables.{length-table, length_over, get_d_over, get_d_past, over-table}
use Rattle.model.specs.Mesh.{Mesh, total, run_cells, run_faces}
use Rattle.model.specs.Step.{next}
use Rattle.model.specs.Causes.{Outcome, accepted, refused, Verdict, fine, input_of, cells_only, mesh_verdict, field_verdict}
use Rattle.model.specs.Calls.{mass_in, lent_masses, field_after}
use Rattle.model.proofs.Verdicts.{accepted-of, refused-of}
use Rattle.record_heads.specs.Heads.{width_in, cells_in}
use Rattle.record_layouts.specs.declared.Width.{Width}
use Rattle.record_reading.specs.Reading.{volumes_in, masses_in, counts_in, mesh_in}
use Rattle.model.specs.Meshes.{over_mesh, MeshCut}
use Rattle.record_reading.specs.Answers.{counting}
use Rattle.record_reading.specs.declared.MeshCounts.{MeshCounts}
use Rattle.taking_mesh.specs.MeshTaking.{mesh_judged, mesh_judged_in_run}
use Rattle.model.specs.declared.Printed.{Printed}
use Rattle.model.specs.StepTaken.{taken_said}
use Rattle.taking.specs.Taking.{field_judged, step_in, printed_of, step_judged, StepTaking}
use Rattle.run_printed.specs.Program.{StepsPrint, no_byte, step_ends, step_goes_on, FieldPrints, field_refused, field_accepted, empty_tables, mesh_refused, mesh_accepted}
use Rattle.promises.specs.Steps.{run_left, StepsMade}
use Rattle.promises.specs.Run.{run_steps, FieldDemanded, RunMakesList}
use Rattle.promises.proofs.AsTheRun.{lent_fine, lent-field-fine, masses_long, field-as-the-run}
use Rattle.promises.proofs.Steps.{demand-3}
use Rattle.std.specs.Prelude.{Result}
use Rattle.model.specs.declared.Refusal.{Refusal}

module _ (w : Width) (M : Mesh) (masses : List ℕ) (long : M.cells ≤ length masses) where
  -- a table that holds the field in its first entries is the field with what stands past it
  whole : lent_masses M (drop M.cells masses) masses ≡ masses
  whole = sym (over-table M.cells (mass_in masses) masses) ∙ ext_get_or 0 _ _ (length_over M.cells (mass_in masses) masses long)
      (λ i l. go i (leb (suc i) M.cells) (fits? (suc i) M.cells))
    where
      go : (i : ℕ) (b : Bool) → Fits (suc i) M.cells b → get_or (over (table M.cells (mass_in masses)) masses) i 0 ≡ get_or masses i 0
      go i true (fits h) = get_d_over M.cells (mass_in masses) masses 0 i h
      go i false (exceeds h) = get_d_past M.cells (mass_in masses) masses 0 i (omega arith)

  module _ (bs : List ℕ) (r : Result Printed Refusal) (after : List ℕ) (t : StepTaking w M masses bs r after) where
    kept : StepTaking w M (lent_masses M (drop M.cells masses) masses) bs r after
    kept = rw whole t

    -- the masses that the program goes on with are the field after the call
    goes_on : (o : Outcome Printed) → taken_said r ≡ o → field_after (run_left o after) masses ≡ after
    goes_on (accepted p) e = refl
    goes_on (refused i j) e =
        let v = refused-of (step_judged w M masses bs) (printed_of M masses (step_in M bs)) i j (sym e ∙ t.answer) in
        let m : after ≡ masses = t.masses-after ∙ rw v in
        sym m

    as_long : (v : Verdict) → step_judged w M masses bs ≡ v → M.cells ≤ length after
    as_long (accepted u) e =
        let m : after ≡ over (table M.cells (next (input_of M masses (step_in M bs)))) masses = t.masses-after ∙ rw e in
        rw m (omega (arith, length_over M.cells (next (input_of M masses (step_in M bs))) masses long))
    as_long (refused i j) e =
        let m : after ≡ masses = t.masses-after ∙ rw e in
        rw m long

module _ (w : Width) (M : Mesh) where
  steps-made : {step : ℕ} {masses input out : List ℕ} (p : StepsPrint w M step masses input out) → M.cells ≤ length masses → StepsMade M masses (run_steps p)
  unfolding run_steps
  steps-made (no_byte bs g z b) long = tt
  steps-made {masses = masses} (step_ends {masses' = after} bs r line g s t h e b) long = (kept w M masses long bs r after t, tt)
  steps-made {masses = masses} (step_goes_on {masses' = after} bs r line g s t h e p) long = (
    kept w M masses long bs r after t,
    rw (goes_on w M masses long bs r after t (taken_said r) refl) (steps-made p (as_long w M masses long bs r after t (step_judged w M masses bs) refl)),
  )

-- the run's own tables before it reads
abbrev cell_zeros : List ℕ
cell_zeros = table run_cells (λ i. 0)

abbrev face_zeros : List ℕ
face_zeros = table run_faces (λ i. 0)

cells-long : length cell_zeros ≡ run_cells
cells-long = length-table run_cells (λ i. 0)

faces-long : length face_zeros ≡ run_faces
faces-long = length-table run_faces (λ i. 0)

tables-long : MeshCut empty_tables
tables-long = record {
  volumes_cut = sym cells-long;
  firsts_cut = sym faces-long;
  seconds_cut = sym faces-long;
  shares_cut = sym faces-long;
  reaches_cut = sym faces-long;
}

-- The mesh of a record that the run accepts, as its tables hold it, and a field on it.
module _ (bs : List ℕ) (mesh-tested : mesh_judged_in_run bs ≡ fine) where
  abbrev held : Mesh
  held = counting (counts_in bs) (over_mesh (mesh_in bs) empty_tables)

  held-fine : mesh_verdict held ≡ fine
  held-fine = lent_fine bs [] [] empty_tables cell_zeros tables-long cells-long mesh-tested

  module _ (field : List ℕ) (judged : field_judged (width_in bs) (cells_in bs) (over (volumes_in bs) cell_zeros) field (length cell_zeros) ≡ fine) where
    abbrev held_field : List ℕ
    held_field = over (masses_in field (cells_in bs)) cell_zeros

    field-long : cells_in bs ≤ length held_field
    field-long = (masses_long bs field [] empty_tables cell_zeros tables-long cells-long mesh-tested).1

    held-field-fine : field_verdict held held_field ≡ fine
    held-field-fine =
        let same = field-as-the-run bs field [] empty_tables cell_zeros tables-long cells-long mesh-tested in
        lent-field-fine bs field [] empty_tables cell_zeros tables-long cells-long mesh-tested (sym same ∙ judged)

  -- the run goes on with the mesh and the width that the taking of the record left
  module _ (w : Width) (M : Mesh) (width_is : w ≡ width_in bs) (mesh-is : M ≡ held) where
    field-demanded : {input out : List ℕ} (p : FieldPrints w M input out) → FieldDemanded p
    field-demanded (field_refused field masses refusal line g t h) = tt
    field-demanded (field_accepted field masses sum line g t h p) =
        let found = (accepted-of (field_judged w M.cells M.volumes field (length cell_zeros))
        (total (cells_only M.cells M.volumes) (mass_in (masses_in field M.cells))) sum t.answer).0 in
        let judged : field_judged (width_in bs) (cells_in bs) (over (volumes_in bs) cell_zeros) field (length cell_zeros) ≡ fine = rw (width_is, mesh-is) at found in
        let masses_are : masses ≡ over (masses_in field M.cells) cell_zeros = t.masses-after ∙ rw found in
        let mesh_fine : mesh_verdict M ≡ fine = rw mesh-is held-fine in
        let field_fine : field_verdict M masses ≡ fine = rw (masses_are, mesh-is) (held-field-fine field judged) in
        let made = steps-made w M p (rw (masses_are, mesh-is) (field-long field judged)) in
        record { mesh_fine = mesh_fine; field_fine = field_fine; made = made; claim = demand-3 M mesh_fine masses field_fine (run_steps p) made }

pub run-makes-list : RunMakesList
run-makes-list input out (mesh_refused bs left refusal line g t h) = tt
run-makes-list input out (mesh_accepted bs left counts g t p) =
    let found = accepted-of (mesh_judged bs (length cell_zeros) (length face_zeros) (length face_zeros) (length face_zeros) (length face_zeros)) (counts_in bs) counts
    t.answer in
    let tested : mesh_judged_in_run bs ≡ fine = rw (cells-long, faces-long) at found.0 in
    let filled : left ≡ over_mesh (mesh_in bs) empty_tables = t.mesh_after ∙ rw found.0 in
    let mesh-is : counting counts left ≡ held bs tested = rw (found.1, filled) in
    field-demanded bs tested counts.width (counting counts left) (ap (λ (n : MeshCounts). n.width) found.1) mesh-is p
