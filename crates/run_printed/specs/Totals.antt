-- Document 01, "A list of steps" and "The board and the run": the totals on the lines that a run prints close.
use Rattle.std.specs.Prelude.{ℕ, ◌+◌, ◌≡◌, List, [], ◌∷◌}
use Rattle.model.specs.Mesh.{Mesh}
use Rattle.model.specs.Causes.{Outcome, accepted, refused}
use Rattle.record_layouts.specs.declared.Width.{Width}
use Rattle.model.specs.declared.Printed.{Printed}
use Rattle.model.specs.StepTaken.{taken_said}
use Rattle.run_printed.specs.Program.{StepsPrint, no_byte, step_ends, step_goes_on, FieldPrints, field_refused, field_accepted, Prints, mesh_refused, mesh_accepted}

-- What the steps of a run were answered, one after another: each has its line (`line_of`).
unfoldable pub answers_of : {w : Width} {M : Mesh} {step : ℕ} {masses input out : List ℕ} → StepsPrint w M step masses input out → List (Outcome Printed)
answers_of (no_byte bs g z b) = []
answers_of (step_ends bs r line g s t h e b) = taken_said r ∷ []
answers_of (step_goes_on bs r line g s t h e p) = taken_said r ∷ answers_of p

-- Each printed total is the one printed before it, plus in-mass and released mass, less out-mass. A refused step prints none.
abbrev pub Close : ℕ → List (Outcome Printed) → Type 0
Close before [] = Unit {0}
Close before (accepted p ∷ os) = (p.total + p.gone ≡ before + p.entered + p.released) × Close p.total os
Close before (refused i j ∷ os) = Close before os

-- From the line of step 0 on, where mesh and field are accepted.
abbrev pub FieldCloses : {w : Width} {M : Mesh} {input out : List ℕ} → FieldPrints w M input out → Type 0
FieldCloses (field_refused bs masses refusal line g t h) = Unit {0}
FieldCloses (field_accepted bs masses sum line g t h p) = Close sum (answers_of p)

abbrev pub RunCloses : {input out : List ℕ} → Prints input out → Type 0
RunCloses (mesh_refused bs left refusal line g t h) = Unit {0}
RunCloses (mesh_accepted bs left counts g t p) = FieldCloses p

abbrev pub TotalsClose : Type 0
TotalsClose = (input out : List ℕ) (run : Prints input out) → RunCloses run
