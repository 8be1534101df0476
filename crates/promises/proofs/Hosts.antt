-- The host's three calls on records, each by its contract: the step, the plain step and the judging of another model's step.
use Prim.Native.Nat.{ℕ}
use mathlib.Core.Path.{◌≡◌, sym, ap, ◌∙◌}
use mathlib.Core.List.{List, [], ◌∷◌}
use native.Mathlib.Omega.{arith}
use lib.ListN.{length}
use Rattle.model.specs.Mesh.{Mesh}
use Rattle.model.specs.Step.{next}
use Rattle.model.specs.Causes.{accepted, refused, Verdict, fine, ◌and_then◌, Call, input_of, mesh_verdict, verdict}
use Rattle.model.specs.Claims.{claim_verdict}
use Rattle.model.specs.Calls.{Crossing, Bounded, Left, crossing_of, corrected, plain, judged}
use Rattle.model.proofs.Verdicts.{both-fine, all-fine, accepted-of}
use Rattle.model.proofs.Lists.{Fair, corrected-keeping, plain-keeping}
use Rattle.model.proofs.Claims.{judged-keeping}
use Rattle.record_heads.specs.Heads.{width_in}
use Rattle.record_reading.specs.Reading.{mesh_in, masses_in, fluxes_in}
use Rattle.taking.specs.Taking.{own_tables, step_in}
use Rattle.taking.proofs.StepLaws.{step-says}
use Rattle.lagoon.specs.Host.{host_verdict, host_bytes, HostPromise}
use Rattle.lagoon.proofs.Small.{host-small}
use Rattle.lagoon.proofs.Stages.{host-says as host-passed}
use Rattle.host_answer.specs.Found.{filled}
use Rattle.host_answer.proofs.Small.{Small, small-and, small-need}
use Rattle.host_answer.proofs.Tables.{claim-small}
use Rattle.host_answer.specs.Steps.{crossed}
use Rattle.host_tested.specs.Tested.{field_tested, field_in, step_tested}
use Rattle.host_tested.proofs.Small.{field-tested-small, step-record-small, step-judged-small}
use Rattle.host_record_promises.specs.Next.{with_room}
use Rattle.host_record_promises.specs.Plain.{PlainPromise}
use Rattle.host_record_promises.specs.Judge.{claim_on, claim_in, claim_judged, claim_tested, JudgedFromC}
use Rattle.promises.specs.Held.{trimmed}
use Rattle.promises.specs.Steps.{HostMade, ClaimMade, host_said, water_in, host_left, Brought, NextHeld, Told}
use Rattle.promises.proofs.Numbers.{said_of, said-giving}
use Rattle.promises.proofs.OnRecords.{record_same, records-crossing, records-fair, records-refused}

-- the step that a record holds is the same on a mesh trimmed to its counts
pub step_same : (M : Mesh) (step : List ℕ) → step_in (trimmed M) step ≡ step_in M step
step_same M step = record_same M step (own_tables (fluxes_in step M.faces))

module _ (M : Mesh) (mesh_fine : mesh_verdict M ≡ fine) (field : List ℕ) (m : HostMade) (brought : Brought M m field) where
  module _ (p : HostPromise m.mesh m.field m.step m.room m.number m.bytes) where
    abbrev host_found : Verdict
    host_found = host_verdict m.mesh m.field m.step (length m.room)

    pub host-says : host_said m.number ≡ host_found
    host-says = said_of host_found m.number p.number (host-small m.mesh m.field m.step (length m.room))

    host-finds : host_found ≡ fine
        → verdict (mesh_in m.mesh) (masses_in m.field (mesh_in m.mesh).cells) (step_in (mesh_in m.mesh) m.step) ≡ fine
    host-finds ok = (step-says _ _ _ m.step (host-passed m.mesh m.field m.step (length m.room) ok).step_fine).1

    pub host-fair : (l : Left) → host_left M m field ≡ accepted l
        → Fair M (Bounded (input_of M field (water_in M m.step)) l.field × NextHeld M m l) field l
    unfolding host_bytes next
    host-fair = records-fair corrected corrected-keeping M mesh_fine field m brought (λ N. step_in N m.step) (step_same M m.step)
        host_found host-says host-finds p.next_field

    pub host-refused : (i j : ℕ) → host_left M m field ≡ refused i j → m.bytes ≡ m.room
    unfolding host_bytes next
    host-refused i j e = (records-refused corrected corrected-keeping M mesh_fine field m brought (λ N. step_in N m.step) (step_same M m.step)
        host_found host-says host-finds p.next_field i j e).1

  -- S-8
  module _ (p : PlainPromise m.mesh m.field m.step m.room m.number m.bytes) where
    abbrev plain_found : Verdict
    plain_found = with_room (step_tested m.mesh m.field m.step) (width_in m.mesh) (mesh_in m.mesh).cells (length m.room)

    pub plain-says : host_said m.number ≡ plain_found
    plain-says = said_of plain_found m.number p.number (small-and
        (small-and (field-tested-small m.mesh m.field) (step-judged-small m.mesh m.step (field_in m.mesh m.field)))
        (small-need 2 11 _ (omega arith)))

    plain-finds : plain_found ≡ fine
        → verdict (mesh_in m.mesh) (masses_in m.field (mesh_in m.mesh).cells) (step_in (mesh_in m.mesh) m.step) ≡ fine
    plain-finds ok = (step-says _ _ _ m.step (all-fine (field_tested m.mesh m.field ∷ _ ∷ _ ∷ []) ok).1.0).1

    pub plain-fair : (l : Left) → host_left M m field ≡ accepted l
        → Fair M (Bounded (input_of M field (water_in M m.step)) l.field × NextHeld M m l) field l
    plain-fair = records-fair plain plain-keeping M mesh_fine field m brought (λ N. step_in N m.step) (step_same M m.step)
        plain_found plain-says plain-finds p.next_field

    pub plain-refused : (i j : ℕ) → host_left M m field ≡ refused i j → m.bytes ≡ m.room
    plain-refused i j e = (records-refused plain plain-keeping M mesh_fine field m brought (λ N. step_in N m.step) (step_same M m.step)
        plain_found plain-says plain-finds p.next_field i j e).1

-- S-11
module _ (M : Mesh) (mesh_fine : mesh_verdict M ≡ fine) (field : List ℕ) (c : ClaimMade) (brought : Brought M c.host field)
    (p : JudgedFromC c.host.mesh c.host.field c.host.step c.claim c.host.room c.found c.host.number c.host.bytes
    c.found_after) where
  abbrev m : HostMade
  m = c.host

  abbrev call_in : Mesh → Call
  call_in N = claim_in N m.step c.claim

  claim-same : call_in (trimmed M) ≡ call_in M
  claim-same = record_same M m.step (λ o r. claim_on (fluxes_in m.step M.faces) o r c.claim)

  abbrev judged_found : Verdict
  judged_found = with_room (claim_tested m.mesh m.field m.step c.claim) (width_in m.mesh) (mesh_in m.mesh).cells (length m.room)

  abbrev judged_crossing : Crossing
  judged_crossing = crossing_of (mesh_in m.mesh) (masses_in m.field (mesh_in m.mesh).cells) (call_in (mesh_in m.mesh))

  judged-small : Small judged_found
  unfolding claim_judged
  judged-small = small-and
      (small-and (field-tested-small m.mesh m.field)
      (small-and (step-record-small m.mesh m.step) (claim-small (mesh_in m.mesh) (field_in m.mesh m.field) (call_in (mesh_in m.mesh)))))
      (small-need 2 11 _ (omega arith))

  judged-says : host_said m.number ≡ judged_found
  judged-says = said-giving judged_found judged_crossing m.number p.answer.number judged-small

  judged-finds : judged_found ≡ fine
      → claim_verdict (mesh_in m.mesh) (masses_in m.field (mesh_in m.mesh).cells) (call_in (mesh_in m.mesh)) ≡ fine
  unfolding claim_judged
  judged-finds ok = (both-fine _ _ (all-fine (field_tested m.mesh m.field ∷ _ ∷ _ ∷ []) ok).1.0).1

  -- what the host is told, where there is room for it
  judged-told : judged_found ≡ fine → c.found_after ≡ filled (crossed (crossing_of M field (call_in M))) c.found
  unfolding ◌and_then◌
  judged-told ok =
      let t : c.found_after ≡ filled (crossed judged_crossing) c.found = p.answer.found-after ∙ rw ok in
      t ∙ ap (λ (x : Crossing). filled (crossed x) c.found) (records-crossing judged judged-keeping M mesh_fine field m brought call_in claim-same)

  pub judge-fair : (l : Left) → host_left M m field ≡ accepted l
      → Fair M (Bounded (input_of M field (water_in M m.step)) l.field × (NextHeld M m l × Told M c.found c.found_after l)) field l
  judge-fair l e =
      let f = records-fair judged judged-keeping M mesh_fine field m brought call_in claim-same judged_found judged-says judged-finds p.next_field l e in
      let b = accepted-of (host_said m.number) _ l (sym e) in
      record {
        budget = f.budget;
        holds = (f.holds.0, (f.holds.1, rw b.1 (judged-told (sym judged-says ∙ b.0))));
        field_accepted = f.field_accepted;
      }

  pub judge-refused : (i j : ℕ) → host_left M m field ≡ refused i j → (m.bytes ≡ m.room) × (c.found_after ≡ c.found)
  unfolding ◌and_then◌
  judge-refused i j e =
      let r = records-refused judged judged-keeping M mesh_fine field m brought call_in claim-same judged_found judged-says judged-finds p.next_field i j e in
      (r.1, p.answer.found-after ∙ rw r.0)
