-- Document 02, S-11: a step of the engine, corrected or plain, handed in as a claim, is accepted: of two calls of the code.
use Rattle.std.specs.Prelude.{ℕ, ◌≤◌, ◌<◌, ◌≡◌, List, ℤ, pos, length, get_or, Result}
use Rattle.model.specs.Mesh.{Mesh}
use Rattle.model.specs.Alike.{AgreeCall}
use Rattle.model.specs.Accepted.{MeshLent, ClaimLent}
use Rattle.model.specs.Causes.{accepted, Call}
use Rattle.model.specs.Claims.{claimed}
use Rattle.model.specs.Calls.{mass_in, Crossing, Scheme}
use Rattle.transport.specs.Promise.{step_said, StepPromise}
use Rattle.judging.specs.Promise.{JudgePromise}
use Rattle.model.specs.declared.Refusal.{Refusal}
use Rattle.transport.specs.declared.Crossed.{Crossed}

-- A step on k that is accepted, and then a judging on k': of the same mesh, field and water, in tables of its own that are long enough, and
-- lent as moved what the step has left there.
pub record Handed (M M' : Mesh) (field field' : List ℕ) (k k' : Call) (r : Result Crossed Refusal) (moved : List ℤ) : Type 0 where
  pub crossing : Crossing
  pub stepped : step_said r ≡ accepted crossing
  pub same_step : AgreeCall M M' field field' k k'
  pub mesh_lent : MeshLent M'
  pub masses_long : M'.cells ≤ length field'
  pub claim_lent : ClaimLent M' k'
  pub as_moved : (f : ℕ) → f < M.faces → claimed k' f ≡ get_or moved f (pos 0)

-- The judging answers what the step has answered, and leaves the same next masses.
abbrev pub OwnCalls : Scheme → Type 0
OwnCalls s = (M M' : Mesh) (field field' : List ℕ) (k k' : Call) (r r' : Result Crossed Refusal) (next next' : List ℕ) (moved : List ℤ) (work : List ℕ)
    → StepPromise s M field k r next moved work → JudgePromise M' field' k' r' next' → Handed M M' field field' k k' r moved
    → (step_said r' ≡ step_said r) × ((c : ℕ) → c < M.cells → mass_in next' c ≡ mass_in next c)
