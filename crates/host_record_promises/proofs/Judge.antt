-- A claim judged on records: what its number says, past the laws of any step on records (`Records`).
use Prim.Native.Nat.{ℕ, ◌^◌, ◌<◌}
use mathlib.Core.Path.{◌≡◌}
use mathlib.Core.List.{List}
use native.Mathlib.Omega.{arith}
use lib.IntN.{ℤ}
use Rattle.model.specs.Mesh.{Mesh}
use Rattle.model.specs.Causes.{fine, Call}
use Rattle.model.specs.Claims.{claim_verdict}
use Rattle.model.proofs.Claims.{claim-passed}
use Rattle.transport.specs.Promise.{step_said}
use Rattle.record_heads.specs.Heads.{width_in}
use Rattle.record_reading.specs.Reading.{mesh_in}
use Rattle.host_answer.specs.Number.{number_of}
use Rattle.host_answer.specs.Found.{Answered}
use Rattle.host_answer.specs.Steps.{crossed}
use Rattle.host_answer.proofs.Answers.{answered-as}
use Rattle.host_answer.proofs.Tables.{claim-small}
use Rattle.host_answer.proofs.Small.{Small, small-and, small-need, small-giving, small-number}
use Rattle.host_tested.specs.Tested.{field_in}
use Rattle.host_tested.proofs.Small.{field-tested-small, step-record-small}
use Rattle.host_record_promises.proofs.Next.{MeshPassed}
use Rattle.host_record_promises.specs.Judge.{claim_in, claim_judged, JudgedTaking, JudgedFromC}
use Rattle.std.specs.Prelude.{Result}
use Rattle.model.specs.declared.Refusal.{Refusal}
use Rattle.transport.specs.declared.Crossed.{Crossed}

pub lent : (M : Mesh) (masses : List ℕ) (k : Call) → claim_verdict M masses k ≡ fine → MeshPassed M
lent M masses k e =
    let p = (claim-passed M masses k e).0 in
    record { counts_fine = p.counts_fine; tables_fine = p.mesh_tables_fine; values_fine = p.mesh_values_fine }

module _ (mesh field step : List ℕ) (claim : List ℤ) (bytes : List ℕ) where
  -- the number
  module _ {a : Result Crossed Refusal} {bytes' : List ℕ} (p : JudgedTaking mesh field step claim bytes a bytes') where
    judged-small : Small (claim_judged (width_in mesh) (mesh_in mesh) (field_in mesh field) step claim)
    unfolding claim_judged
    judged-small = small-and (step-record-small mesh step) (claim-small (mesh_in mesh) (field_in mesh field) (claim_in (mesh_in mesh) step claim))

    pub number_fits : number_of (step_said a) < 2 ^ 64
    number_fits = rw p.answer
        (small-number _ (small-giving _ (small-and (small-and (field-tested-small mesh field) judged-small) (small-need 2 11 _ (omega arith)))))

    pub judged-number : {found : List ℕ} {r : ℕ} {found' : List ℕ} → Answered crossed (step_said a) found r found'
        → JudgedFromC mesh field step claim bytes found r bytes' found'
    judged-number {found = found} n = record { answer = answered-as crossed found p.answer n; next_field = p.bytes_after }
