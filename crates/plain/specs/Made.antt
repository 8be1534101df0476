-- Document 02, S-8: the error, of plain calls as they were made and answered.
use Rattle.std.specs.Prelude.{ℕ, List}
use Rattle.model.specs.Mesh.{Mesh}
use Rattle.model.specs.Causes.{Outcome}
use Rattle.model.specs.Calls.{Left, plain, lent_masses, EachStep}
use Rattle.plain.specs.Error.{ErrorBelow}
use Rattle.transport.specs.Promise.{step_said, left_by, StepPromise}
use Rattle.transport.specs.Made.{Made}

-- What a call came to: the next masses it left, or its refusal
abbrev pub came_to : Made → List ℕ → Outcome Left
came_to m field = left_by (step_said m.answer) m.next

-- Each call was made on the field that the one before it had come to, and it kept the contract of a plain `step`.
abbrev pub KeptOn : Mesh → List ℕ → List Made → Type 0
KeptOn M = EachStep came_to
    (λ m field. StepPromise plain M (lent_masses M m.past field) m.tables m.answer m.next m.moved m.work)

-- S-8's error, of whatever such calls answered and left
abbrev pub ErrorOfCalls : Type 0
ErrorOfCalls = (M : Mesh) (field : List ℕ) (calls : List Made) → KeptOn M field calls → ErrorBelow M (λ m. m.tables) came_to field calls
