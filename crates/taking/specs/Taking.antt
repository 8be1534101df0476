-- Document 01, "The board and the run" and "Tables lent to a step": what a field and a step record come to. Each is read, then judged
-- by the causes of its values; a step is taken. A refusal leaves the lent masses as they were. Document 02, S-10: both are told the width.
use Rattle.std.specs.Prelude.{ℕ, ◌≡◌, List, [], ◌∷◌, length, replicate, ℤ, pos, Result}
use Rattle.lists.specs.Table.{table, over}
use Rattle.model.specs.Mesh.{Mesh, total, run_cells, run_faces}
use Rattle.model.specs.Step.{next, in_mass, out_mass, released_mass}
use Rattle.model.specs.Causes.{accepted, Verdict, ◌and_then◌, in_turn, granted, long, Call, call_of, work_entries, cells_only, input_of, mesh_field_verdict, verdict}
use Rattle.model.specs.Calls.{mass_in}
use Rattle.checks.specs.Total.{total_said}
use Rattle.record_heads.specs.Heads.{step_head_verdict}
use Rattle.record_layouts.specs.declared.Width.{Width}
use Rattle.record_reading.specs.Reading.{masses_in, fluxes_in, outsides_in, releases_in, field_read, step_body_verdict}
use Rattle.model.specs.declared.Printed.{Printed}
use Rattle.model.specs.StepTaken.{taken_said}
use Rattle.model.specs.declared.Refusal.{Refusal}

-- A FIELD on so many cells of these volumes. It is read into a table of the call's own, of 1,023 entries; the lent one, of so many, has to
-- hold it. Then come the causes that the total of a field has.
abbrev pub field_judged_causes : Width → ℕ → List ℕ → List ℕ → ℕ → List Verdict
field_judged_causes w cells volumes bs masses =
    field_read w cells bs run_cells ∷ long 5 cells masses ∷ mesh_field_verdict (cells_only cells volumes) (masses_in bs cells) ∷ []

unfoldable pub field_judged : Width → ℕ → List ℕ → List ℕ → ℕ → Verdict
field_judged w cells volumes bs masses = in_turn (field_judged_causes w cells volumes bs masses)

-- "The board and the run", step 0: the total of the first field is printed.
pub record FieldTaking (w : Width) (cells : ℕ) (volumes bs masses : List ℕ) (r : Result ℕ Refusal) (masses' : List ℕ) : Type 0 where
  pub answer : total_said r ≡ (field_judged w cells volumes bs (length masses) and_then accepted (total (cells_only cells volumes) (mass_in (masses_in bs cells))))
  pub masses-after : masses' ≡ granted (field_judged w cells volumes bs (length masses)) (over (masses_in bs cells) masses) masses

-- A STEP.

-- a table of n entries x
unfoldable pub blank : {A : Type 0} → ℕ → A → List A
blank n x = replicate n x

-- "Tables lent to a step": the tables of results and work are the call's own, as long as the run's limits. What they held is no matter.
abbrev pub own_tables : List ℤ → List ℕ → List ℕ → Call
own_tables fluxes outsides releases =
    call_of fluxes outsides (blank run_cells 0) (blank run_faces (pos 0)) (blank (work_entries run_cells run_faces) 0) releases

-- the step that a record holds
abbrev pub step_in : Mesh → List ℕ → Call
step_in M bs = own_tables (fluxes_in bs M.faces) (outsides_in bs M.faces M.seconds) (releases_in bs M.cells M.faces M.seconds)

-- The causes of reading, of a record of either kind; it is read into tables of the call's own, as long as the run's limits.
unfoldable pub step_record_found : Width → Mesh → List ℕ → Verdict
step_record_found w M bs =
    step_head_verdict w M.cells M.faces M.seconds bs and_then step_body_verdict M.cells M.faces M.seconds bs run_faces run_faces run_cells

module _ (M : Mesh) (masses : List ℕ) where
  -- "The board and the run": in-mass, out-mass, and the total of the field that the step leaves; and S-6's released mass
  abbrev pub printed_of : Call → Printed
  printed_of k = record {
    entered = in_mass (input_of M masses k);
    gone = out_mass (input_of M masses k);
    total = total M (next (input_of M masses k));
    released = released_mass M.cells k.releases;
  }

  -- "A list of steps": the field after a step of which v is found
  abbrev pub masses_after : Verdict → Call → List ℕ
  masses_after v k = granted v (over (table M.cells (next (input_of M masses k))) masses) masses

  pub record Stepping (v : Verdict) (k : Call) (r : Result Printed Refusal) (masses' : List ℕ) : Type 0 where
    pub answer : taken_said r ≡ (v and_then accepted (printed_of k))
    pub masses-after : masses' ≡ masses_after v k

-- Then those of the step.
module _ (w : Width) (M : Mesh) (masses : List ℕ) where
  unfoldable pub step_judged : List ℕ → Verdict
  step_judged bs = step_record_found w M bs and_then verdict M masses (step_in M bs)

  abbrev pub StepTaking : List ℕ → (Result Printed Refusal) → List ℕ → Type 0
  StepTaking bs = Stepping M masses (step_judged bs) (step_in M bs)
