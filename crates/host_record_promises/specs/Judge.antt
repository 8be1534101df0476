-- Document 02, S-11, for a host in C: another model's step judged on a mesh, a field and a step record, by the moved masses that it claims. The records are
-- tested first; then come the judging's causes in its own order, a claim that is too short among them, and the room for the next field last.
use Rattle.std.specs.Prelude.{ℕ, ◌≡◌, List, ℤ, length, Result}
use Rattle.model.specs.Mesh.{Mesh, run_cells}
use Rattle.model.specs.Causes.{Outcome, accepted, Verdict, ◌and_then◌, Call}
use Rattle.model.specs.Claims.{claim_of, claim_verdict}
use Rattle.model.specs.Calls.{Crossing, crossing_of, judged}
use Rattle.record_heads.specs.Heads.{width_in}
use Rattle.record_layouts.specs.declared.Width.{Width}
use Rattle.record_reading.specs.Reading.{mesh_in, fluxes_in, outsides_in, releases_in}
use Rattle.taking.specs.Taking.{blank, step_record_found}
use Rattle.host_answer.specs.Found.{Answered}
use Rattle.host_answer.specs.Steps.{crossed}
use Rattle.host_tested.specs.Tested.{field_tested, field_in}
use Rattle.host_record_promises.specs.Next.{with_room, record_over, next_by, StepWritten}
use Rattle.model.specs.declared.Refusal.{Refusal}
use Rattle.transport.specs.declared.Crossed.{Crossed}

-- the claim beside the step that a record holds; the table of next masses is the call's own
abbrev pub claim_on : List ℤ → List ℕ → List ℕ → List ℤ → Call
claim_on fluxes outsides releases claim = claim_of fluxes outsides (blank run_cells 0) claim releases

abbrev pub claim_in : Mesh → List ℕ → List ℤ → Call
claim_in M step = claim_on (fluxes_in step M.faces) (outsides_in step M.faces M.seconds) (releases_in step M.cells M.faces M.seconds)

-- what is found of a step record and a claim on a mesh and a field
unfoldable pub claim_judged : Width → Mesh → (masses step : List ℕ) → List ℤ → Verdict
claim_judged w M masses step claim = step_record_found w M step and_then claim_verdict M masses (claim_in M step claim)

-- on tables, on a mesh and a field that have been read, and on records
abbrev pub JudgedIn : Width → Mesh → List ℕ → List ℤ → List ℕ → List ℕ → List ℤ → List ℕ → (Result Crossed Refusal) → List ℕ → Type 0
JudgedIn w M masses fluxes outsides releases claim =
    StepWritten judged M masses (claim_on fluxes outsides releases claim) (claim_verdict M masses (claim_on fluxes outsides releases claim)) w

abbrev pub JudgedOn : Width → Mesh → (masses step : List ℕ) → List ℤ → List ℕ → (Result Crossed Refusal) → List ℕ → Type 0
JudgedOn w M masses step claim = StepWritten judged M masses (claim_in M step claim) (claim_judged w M masses step claim) w

module _ (mesh field step : List ℕ) (claim : List ℤ) where
  abbrev pub claim_tested : Verdict
  claim_tested = field_tested mesh field and_then claim_judged (width_in mesh) (mesh_in mesh) (field_in mesh field) step claim

  abbrev pub JudgedTaking : List ℕ → (Result Crossed Refusal) → List ℕ → Type 0
  JudgedTaking = StepWritten judged (mesh_in mesh) (field_in mesh field) (claim_in (mesh_in mesh) step claim) claim_tested (width_in mesh)

  abbrev pub judged_found : ℕ → Outcome Crossing
  judged_found room = with_room claim_tested (width_in mesh) (mesh_in mesh).cells room and_then accepted
      (crossing_of (mesh_in mesh) (field_in mesh field) (claim_in (mesh_in mesh) step claim))

  -- The promise: the number and what is found, and the bytes afterwards.
  pub record JudgedFromC (bytes found : List ℕ) (r : ℕ) (bytes' found' : List ℕ) : Type 0 where
    pub answer : Answered crossed (judged_found (length bytes)) found r found'
    pub next_field : bytes' ≡ record_over claim_tested (width_in mesh) (mesh_in mesh).cells
        (next_by judged (mesh_in mesh) (field_in mesh field) (claim_in (mesh_in mesh) step claim)) bytes
