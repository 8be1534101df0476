-- Document 01, "A list of steps" and "The board and the run": the steps of a run are a list of step calls of which demand 3 speaks.
use Rattle.std.specs.Prelude.{ℕ, ◌≡◌, List, [], ◌∷◌, drop, Result}
use Rattle.model.specs.Mesh.{Mesh}
use Rattle.model.specs.Causes.{fine, mesh_verdict, field_verdict}
use Rattle.model.specs.Calls.{ListClaim}
use Rattle.record_layouts.specs.declared.Width.{Width}
use Rattle.run_printed.specs.Program.{StepsPrint, no_byte, step_ends, step_goes_on, FieldPrints, field_refused, field_accepted, Prints, mesh_refused, mesh_accepted}
use Rattle.promises.specs.Steps.{StepCall, by_take_step, StepsMade, came_to, StepOwed}
use Rattle.model.specs.declared.Refusal.{Refusal}
use Rattle.model.specs.declared.Printed.{Printed}

-- a step of the run, which steps the first masses of a table in place
abbrev pub run_step : Width → Mesh → List ℕ → List ℕ → (Result Printed Refusal) → List ℕ → StepCall
run_step w M masses step answer after = by_take_step (record { width = w; past = drop M.cells masses; step = step; answer = answer; masses = after })

unfoldable pub run_steps : {w : Width} {M : Mesh} {step : ℕ} {masses input out : List ℕ} → StepsPrint w M step masses input out → List StepCall
run_steps (no_byte bs g z b) = []
run_steps {w} {M} {masses = masses} (step_ends {masses' = after} bs r line g s t h e b) = run_step w M masses bs r after ∷ []
run_steps {w} {M} {masses = masses} (step_goes_on {masses' = after} bs r line g s t h e p) = run_step w M masses bs r after ∷ run_steps p

-- What demand 3 asks for, and what it says: mesh and first field, as the run's tables hold them, are accepted, and the calls were made.
pub record Demanded (M : Mesh) (field : List ℕ) (calls : List StepCall) : Type 0 where
  pub mesh_fine : mesh_verdict M ≡ fine
  pub field_fine : field_verdict M field ≡ fine
  pub made : StepsMade M field calls
  pub claim : ListClaim M (came_to M) (StepOwed M) field calls

-- A run makes no step where its mesh or its field is refused.
abbrev pub FieldDemanded : {w : Width} {M : Mesh} {input out : List ℕ} → FieldPrints w M input out → Type 0
FieldDemanded (field_refused bs masses refusal line g t h) = Unit {0}
FieldDemanded {M = M} (field_accepted bs masses sum line g t h p) = Demanded M masses (run_steps p)

abbrev pub RunDemanded : {input out : List ℕ} → Prints input out → Type 0
RunDemanded (mesh_refused bs left refusal line g t h) = Unit {0}
RunDemanded (mesh_accepted bs left counts g t p) = FieldDemanded p

-- Of every run: its steps are such a list, and so demand 3 holds of them.
abbrev pub RunMakesList : Type 0
RunMakesList = (input out : List ℕ) (run : Prints input out) → RunDemanded run
