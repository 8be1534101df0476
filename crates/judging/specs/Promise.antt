-- Document 02, S-11: what the judging of another model's step promises.
use Rattle.std.specs.Prelude.{◌≡◌, List, ℕ, ℤ, pos, get_or, Result}
use Rattle.model.specs.Mesh.{Mesh}
use Rattle.model.specs.Step.{StepInput, in_mass, out_mass, released_mass}
use Rattle.model.specs.Causes.{Outcome, accepted, ◌and_then◌, Call}
use Rattle.model.specs.Claims.{amounts_verdict}
use Rattle.model.specs.Calls.{Crossing, judged, step_answer, next_table}
use Rattle.transport.specs.Promise.{step_said}
use Rattle.model.specs.declared.Refusal.{Refusal}
use Rattle.transport.specs.declared.Crossed.{Crossed}

-- The answer, which is that of a step, and the table of next masses afterwards. No other table is written; the claim stays as it was.
pub record JudgePromise (M : Mesh) (masses : List ℕ) (k : Call) (r : Result Crossed Refusal) (next : List ℕ) : Type 0 where
  pub answer : step_said r ≡ step_answer judged M k masses
  pub next_masses : next ≡ next_table judged M k masses

-- past the causes of a step: 21 and 22 of a claim, or what came in and went out
abbrev pub amounts_answer : StepInput → List ℤ → List ℕ → Outcome Crossing
amounts_answer S claim releases = amounts_verdict S (λ f. get_or claim f (pos 0)) and_then
    accepted (record { entered = in_mass S; gone = out_mass S; released = released_mass S.mesh.cells releases })
