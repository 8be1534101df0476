-- The plain step on records: what its number says, past the laws of any step on records (`Records`).
use Prim.Native.Nat.{ℕ, ◌^◌, ◌<◌}
use mathlib.Core.Path.{◌≡◌, sym, ap, ◌∙◌}
use mathlib.Core.List.{List}
use native.Mathlib.Omega.{arith}
use lib.ListN.{length}
use Rattle.model.specs.Mesh.{Mesh}
use Rattle.model.specs.Causes.{fine, verdict, Call}
use Rattle.model.specs.Answers.{number}
use Rattle.model.specs.declared.Refusal.{Refusal}
use Rattle.model.proofs.Accepted.{passed}
use Rattle.model.proofs.Verdicts.{refused-of, accepted-of}
use Rattle.transport.specs.Promise.{step_said}
use Rattle.transport.specs.declared.Crossed.{Crossed}
use Rattle.record_heads.specs.Heads.{width_in}
use Rattle.record_reading.specs.Reading.{mesh_in}
use Rattle.host_answer.specs.Number.{number_of, refusal_number}
use Rattle.host_answer.proofs.Answers.{refusal-of}
use Rattle.host_answer.proofs.Small.{small-and, small-need, small-giving, small-number}
use Rattle.host_tested.specs.Tested.{field_in, step_tested}
use Rattle.host_tested.proofs.Small.{field-tested-small, step-judged-small}
use Rattle.host_record_promises.specs.Next.{with_room}
use Rattle.host_record_promises.proofs.Next.{MeshPassed}
use Rattle.host_record_promises.specs.Plain.{PlainTaking, PlainPromise}
use Rattle.std.specs.Prelude.{Result, Ok, Err}

pub lent : (M : Mesh) (masses : List ℕ) (k : Call) → verdict M masses k ≡ fine → MeshPassed M
lent M masses k e =
    let p = passed M masses k e in
    record { counts_fine = p.counts_fine; tables_fine = p.mesh_tables_fine; values_fine = p.mesh_values_fine }

module _ (mesh field step bytes : List ℕ) where
  -- the number
  module _ {a : Result Crossed Refusal} {bytes' : List ℕ} (p : PlainTaking mesh field step bytes a bytes') where
    pub number_fits : {r : Refusal} → a ≡ Err r → refusal_number (number r.cause) r.place < 2 ^ 64
    number_fits {r = r} d = refusal-of (sym p.answer ∙ ap step_said d)
        (small-number _ (small-giving _ (small-and (small-and (field-tested-small mesh field) (step-judged-small mesh step (field_in mesh field)))
        (small-need 2 11 _ (omega arith)))))

    pub refused-number : {r : Refusal} → a ≡ Err r → {n : ℕ} → n ≡ refusal_number (number r.cause) r.place → PlainPromise mesh field step bytes n
        bytes'
    refused-number {r = r} d e = record {
      number = e ∙ sym (ap number_of (refused-of (with_room (step_tested mesh field step) (width_in mesh) (mesh_in mesh).cells (length bytes)) _
          (number r.cause) r.place (sym (ap step_said d) ∙ p.answer)));
      next_field = p.bytes_after;
    }

    pub stepped-number : {x : Crossed} → a ≡ Ok x → PlainPromise mesh field step bytes 0 bytes'
    stepped-number d = record {
      number = sym (ap number_of (accepted-of (with_room (step_tested mesh field step) (width_in mesh) (mesh_in mesh).cells (length bytes)) _ _
          (sym (ap step_said d) ∙ p.answer)).0);
      next_field = p.bytes_after;
    }
