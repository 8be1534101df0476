-- The host's plain step and judging on a record of kind 3 or 7: a release has no bits there, and no bits spell 0.
use Prim.Native.Nat.{ℕ}
use mathlib.Core.Path.{◌≡◌, refl, ap, ◌∙◌}
use mathlib.Core.List.{List}
use lib.IntN.{ℤ}
use lib.ListN.{length}
use Rattle.lists.specs.Table.{over}
use Rattle.model.specs.Mesh.{Mesh}
use Rattle.model.specs.Causes.{accepted, refused, Verdict, fine, ◌and_then◌, granted}
use Rattle.model.specs.Claims.{claim_verdict}
use Rattle.model.specs.Calls.{Crossing, crossing_of, plain, judged}
use Rattle.model.proofs.Verdicts.{both-fine}
use Rattle.model.proofs.Accepted.{ready}
use Rattle.model.proofs.Claims.{judged-keeping}
use Rattle.record_layouts.specs.Layouts.{field_kind, field_record, water_kind}
use Rattle.record_heads.specs.Heads.{kind_in, width_in}
use Rattle.record_layouts.specs.declared.Width.{Width}
use Rattle.record_reading.specs.Reading.{mesh_in}
use Rattle.taking.specs.Taking.{step_in, step_record_found}
use Rattle.taking.proofs.StepLaws.{step-says}
use Rattle.taking.proofs.KindThree.{all_there, none, judged-same}
use Rattle.host_answer.specs.Number.{number_of}
use Rattle.host_answer.proofs.Answers.{answered-as}
use Rattle.host_answer.specs.Steps.{crossed}
use Rattle.host_tested.specs.Tested.{field_tested, field_in, step_tested}
use Rattle.host_record_promises.specs.Next.{with_room, record_over, next_by}
use Rattle.host_record_promises.specs.Judge.{claim_in, claim_judged, claim_tested}
use Rattle.host_kinds.specs.KindThree.{plain_tested01, plain_next01, PlainAsBefore, claim_next01, claim_crossing01, claim_tested01, JudgedAsBefore}
use Rattle.host_kinds.proofs.Unreleased.{crossing-same, claim-next-same, low_same, claim-verdict-same}

-- a record over the bytes by the same verdict, where the next masses are the same once nothing is found
over-same : (v v' : Verdict) (w : Width) (cells : ℕ) (next next' bytes : List ℕ) → v ≡ v' → (v ≡ fine → next ≡ next')
    → record_over v w cells next bytes ≡ record_over v' w cells next' bytes
over-same v v' w cells next next' bytes e same = go (with_room v w cells (length bytes)) refl
    ∙ ap (λ (u : Verdict). record_over u w cells next' bytes) e
  where
    go : (u : Verdict) → with_room v w cells (length bytes) ≡ u
        → granted u (over (field_record (field_kind w) cells next) bytes) bytes ≡ granted u (over (field_record (field_kind w) cells next') bytes) bytes
    go (accepted t) q = ap (λ (xs : List ℕ). over (field_record (field_kind w) cells xs) bytes) (same (both-fine _ _ q).0)
    go (refused i j) q = refl

-- a crossing by the same verdict
giving-same : (v v' : Verdict) (x x' : Crossing) → v ≡ v' → (v ≡ fine → x ≡ x') → (v and_then accepted x) ≡ (v' and_then accepted x')
unfolding ◌and_then◌
giving-same v v' x x' e same = go v refl ∙ ap (λ (u : Verdict). u and_then accepted x') e
  where
    go : (u : Verdict) → v ≡ u → (u and_then accepted x) ≡ (u and_then accepted x')
    go (accepted t) q = ap (λ (y : Crossing). accepted y) (same q)
    go (refused i j) q = refl

module _ (w : Width) (mesh field step : List ℕ) (e : kind_in step ≡ water_kind w) where
  abbrev M : Mesh
  M = mesh_in mesh

  abbrev masses : List ℕ
  masses = field_in mesh field

  plain-same : step_tested mesh field step ≡ plain_tested01 mesh field step
  plain-same = ap (λ (v : Verdict). field_tested mesh field and_then v) (judged-same w (width_in mesh) M masses step e)

  plain-next-same : step_tested mesh field step ≡ fine → next_by plain M masses (step_in M step) ≡ plain_next01 mesh field step
  plain-next-same ok =
      let r = ready M masses (step_in M step) (step-says (width_in mesh) M masses step (both-fine _ _ ok).1).1 in
      low_same M masses (step_in M step) (all_there M step) (none M step w e) r.counts_fit.few_cells r.fit

  -- the judging
  module _ (claim : List ℤ) where
    claims-same : claim_tested mesh field step claim ≡ claim_tested01 mesh field step claim
    unfolding claim_judged
    claims-same = ap (λ (v : Verdict). field_tested mesh field and_then (step_record_found (width_in mesh) M step and_then v))
        (claim-verdict-same M masses (claim_in M step claim) (all_there M step) (none M step w e))

    module _ (ok : claim_tested mesh field step claim ≡ fine) where
      found : claim_verdict M masses (claim_in M step claim) ≡ fine
      unfolding claim_judged
      found = (both-fine _ _ (both-fine _ _ ok).1).1

      claim-next : next_by judged M masses (claim_in M step claim) ≡ claim_next01 M masses (claim_in M step claim)
      claim-next =
          let r = judged-keeping.readies M masses (claim_in M step claim) found in
          claim-next-same M masses (claim_in M step claim) (all_there M step) (none M step w e) r.counts_fit.few_cells r.fit

      claim-crossing : crossing_of M masses (claim_in M step claim) ≡ claim_crossing01 M masses (claim_in M step claim)
      claim-crossing =
          let r = judged-keeping.readies M masses (claim_in M step claim) found in
          crossing-same M masses (claim_in M step claim) (all_there M step) (none M step w e) r.counts_fit.few_cells r.fit

pub plain-as-before : PlainAsBefore
plain-as-before w mesh field step bytes e r bytes' p =
    let v = plain-same w mesh field step e in (
      p.number ∙ ap (λ (u : Verdict). number_of (with_room u (width_in mesh) (mesh_in mesh).cells (length bytes))) v,
      p.next_field ∙ over-same (step_tested mesh field step) (plain_tested01 mesh field step) (width_in mesh) (mesh_in mesh).cells _ _ bytes v
          (plain-next-same w mesh field step e),
    )

pub judged-as-before : JudgedAsBefore
judged-as-before w mesh field step claim bytes found e r bytes' found' p =
    let v = claims-same w mesh field step e claim in
    let room : (u : Verdict) → Verdict = λ u. with_room u (width_in mesh) (mesh_in mesh).cells (length bytes) in (
      answered-as crossed found (giving-same (room (claim_tested mesh field step claim)) (room (claim_tested01 mesh field step claim)) _ _ (ap room v)
          (λ ok. claim-crossing w mesh field step e claim (both-fine _ _ ok).0)) p.answer,
      p.next_field ∙ over-same (claim_tested mesh field step claim) (claim_tested01 mesh field step claim) (width_in mesh) (mesh_in mesh).cells _ _ bytes v
          (claim-next w mesh field step e claim),
    )
