-- Document 02, S-6, beside S-8 and S-11: the host's plain step, and its judging, on a step record of kind 3, and in S-10 of kind 7, which hold no
-- releases: they work on the field as it was brought, and neither 14 among the tables nor 18 is found.
use Rattle.std.specs.Prelude.{ℕ, ◌≡◌, List, [], ◌∷◌, ℤ, length}
use Rattle.lists.specs.Table.{table}
use Rattle.model.specs.Mesh.{Mesh, updated, ceiling}
use Rattle.model.specs.Step.{mass, low, in_mass, out_mass}
use Rattle.model.specs.Causes.{accepted, Verdict, ◌and_then◌, in_turn, Call, lengths_to_moved, counts, mesh_tables, mesh_values, field_table, field_values, step_values}
use Rattle.model.specs.Claims.{claimed, amounts_verdict}
use Rattle.model.specs.Calls.{Crossing}
use Rattle.model.specs.Unreleased.{unraised}
use Rattle.record_layouts.specs.Layouts.{water_kind}
use Rattle.record_heads.specs.Heads.{kind_in, width_in}
use Rattle.record_layouts.specs.declared.Width.{Width}
use Rattle.record_reading.specs.Reading.{mesh_in}
use Rattle.taking.specs.Taking.{step_record_found}
use Rattle.taking.specs.KindThree.{step01, judged01}
use Rattle.host_answer.specs.Number.{number_of}
use Rattle.host_answer.specs.Found.{Answered}
use Rattle.host_answer.specs.Steps.{crossed}
use Rattle.host_tested.specs.Tested.{field_tested, field_in}
use Rattle.host_record_promises.specs.Next.{with_room, record_over}
use Rattle.host_record_promises.specs.Plain.{PlainPromise}
use Rattle.host_record_promises.specs.Judge.{claim_in, JudgedFromC}

-- THE PLAIN STEP: what is found is what document 01's step finds, and the next masses are its low-order ones.
module _ (mesh field step : List ℕ) where
  abbrev pub plain_tested01 : Verdict
  plain_tested01 = field_tested mesh field and_then judged01 (width_in mesh) (mesh_in mesh) (field_in mesh field) step

  abbrev pub plain_next01 : List ℕ
  plain_next01 = table (mesh_in mesh).cells (low (step01 (mesh_in mesh) (field_in mesh field) step))

abbrev pub PlainAsBefore : Type 0
PlainAsBefore = (w : Width) (mesh field step bytes : List ℕ) → kind_in step ≡ water_kind w
    → (r : ℕ) (bytes' : List ℕ) → PlainPromise mesh field step bytes r bytes'
    → (r ≡ number_of (with_room (plain_tested01 mesh field step) (width_in mesh) (mesh_in mesh).cells (length bytes)))
    × (bytes' ≡ record_over (plain_tested01 mesh field step) (width_in mesh) (mesh_in mesh).cells (plain_next01 mesh field step) bytes)

-- THE JUDGING, of a call with these tables on the field as it was brought
module _ (M : Mesh) (masses : List ℕ) (k : Call) where
  abbrev pub claim_verdict01 : Verdict
  claim_verdict01 = in_turn
      (counts M ∷ mesh_tables M ∷ field_table M masses ∷ in_turn (lengths_to_moved M.cells M.faces k) ∷ mesh_values ceiling M ∷ field_values M masses
      ∷ step_values ceiling M masses k ∷ []) and_then amounts_verdict (unraised M masses k) (claimed k)

  abbrev pub claim_next01 : List ℕ
  claim_next01 = table M.cells (updated M (mass (unraised M masses k)) (claimed k))

  abbrev pub claim_crossing01 : Crossing
  claim_crossing01 = record { entered = in_mass (unraised M masses k); gone = out_mass (unraised M masses k); released = 0 }

module _ (mesh field step : List ℕ) (claim : List ℤ) where
  abbrev pub call_in01 : Call
  call_in01 = claim_in (mesh_in mesh) step claim

  abbrev pub claim_tested01 : Verdict
  claim_tested01 = field_tested mesh field
      and_then (step_record_found (width_in mesh) (mesh_in mesh) step and_then claim_verdict01 (mesh_in mesh) (field_in mesh field) call_in01)

abbrev pub JudgedAsBefore : Type 0
JudgedAsBefore = (w : Width) (mesh field step : List ℕ) (claim : List ℤ) (bytes found : List ℕ) → kind_in step ≡ water_kind w
    → (r : ℕ) (bytes' found' : List ℕ) → JudgedFromC mesh field step claim bytes found r bytes' found'
    → Answered crossed (with_room (claim_tested01 mesh field step claim) (width_in mesh) (mesh_in mesh).cells (length bytes)
    and_then accepted (claim_crossing01 (mesh_in mesh) (field_in mesh field) (call_in01 mesh field step claim))) found r found'
    × (bytes' ≡ record_over (claim_tested01 mesh field step claim) (width_in mesh) (mesh_in mesh).cells
    (claim_next01 (mesh_in mesh) (field_in mesh field) (call_in01 mesh field step claim)) bytes)
