-- Releases of 0 change nothing of a plain step and nothing of a claim: 14 and 18 find nothing, and the raised field agrees with the field.
use Prim.Native.Nat.{ℕ, ◌≤◌, ◌<◌}
use mathlib.Core.Path.{◌≡◌, refl, sym, ap, ◌∙◌}
use mathlib.Core.List.{List, [], ◌∷◌}
use borrow.Author.Tests.{le-leb}
use lib.ListN.{length}
use Rattle.lists.specs.Table.{table}
use Rattle.lists.proofs.Tables.{table-cong}
use Rattle.model.specs.Mesh.{Mesh, updated, ceiling}
use Rattle.model.specs.Step.{StepInput, mass, carried, low}
use Rattle.model.specs.Alike.{Agree}
use Rattle.model.specs.Accepted.{MeshFit}
use Rattle.model.specs.Causes.{accepted, refused, Verdict, fine, ◌and_then◌, in_turn, Call, input_of, release, lengths_to_moved, counts, mesh_tables, mesh_values, field_table, field_values, step_values}
use Rattle.model.specs.Claims.{claimed, claim_tables, claim_good, bounds_good, amounts_verdict, unworked_verdict, claim_verdict}
use Rattle.model.specs.Calls.{crossing_of}
use Rattle.model.specs.Unreleased.{unraised}
use Rattle.model.proofs.Verdicts.{both-fine, all-fine, need-met, each-cong}
use Rattle.model.proofs.Accepted.{counted, mesh-fit}
use Rattle.model.proofs.Agree.{lo-agree, hi-agree, carried-agree, in-agree, out-agree, incoming-agree, outgoing-agree}
use Rattle.model.proofs.Unreleased.{idle, raised-idle, unraised-mass, agrees, released-none}
use Rattle.host_kinds.specs.KindThree.{claim_verdict01, claim_next01, claim_crossing01}

-- two parts, of which the second is the same where the first finds nothing
second-same : (v w w' : Verdict) → (v ≡ fine → w ≡ w') → (v and_then w) ≡ (v and_then w')
unfolding ◌and_then◌
second-same (accepted t) w w' h = h refl
second-same (refused i j) w w' h = refl

module _ (M : Mesh) (field : List ℕ) (k : Call) (long : M.cells ≤ length k.releases) (none : (c : ℕ) → c < M.cells → release k c ≡ 0) where
  abbrev S : StepInput
  S = input_of M field k

  abbrev S₀ : StepInput
  S₀ = unraised M field k

  -- the raised field agrees with the field
  abbrev alike : Agree S S₀
  alike = agrees M field k long none

  -- 1 to 10 of a claim, without 14 and 18
  lengths-same : claim_tables M field k ≡ in_turn (lengths_to_moved M.cells M.faces k)
  unfolding claim_tables
  lengths-same = idle _ _ (λ e. need-met 2 14 (le-leb M.cells (length k.releases) long))

  abbrev worked_causes : List Verdict
  worked_causes = counts M ∷ mesh_tables M ∷ field_table M field ∷ in_turn (lengths_to_moved M.cells M.faces k)
      ∷ mesh_values ceiling M ∷ field_values M field ∷ step_values ceiling M field k ∷ []

  abbrev worked : Verdict
  worked = in_turn worked_causes

  unworked-same : unworked_verdict M field k ≡ worked
  unfolding unworked_verdict
  unworked-same = rw lengths-same (ap (λ (v : Verdict). v and_then step_values ceiling M field k)
      (idle _ _ (λ e. raised-idle M field k long none (both-fine _ _ e).1)))

  module _ (few : M.cells ≤ 4095) (fit : MeshFit M) where
    pub crossing-same : crossing_of M field k ≡ claim_crossing01 M field k
    crossing-same = rw (sym (in-agree S S₀ few fit alike), sym (out-agree S S₀ few fit alike), released-none M field k long none)

    -- 21 and 22
    amounts-same : amounts_verdict S (claimed k) ≡ amounts_verdict S₀ (claimed k)
    unfolding amounts_verdict claim_good bounds_good
    amounts-same = rw (
      each-cong 21 M.faces (claim_good S (claimed k)) (claim_good S₀ (claimed k)) (λ f l. rw (sym (carried-agree S S₀ few fit alike f l))),
      each-cong 22 M.cells (bounds_good S (claimed k)) (bounds_good S₀ (claimed k))
          (λ c h. rw (sym (lo-agree S S₀ few fit alike c h), sym (hi-agree S S₀ few fit alike c h), sym (unraised-mass M field k long none c h))),
    )

    -- the next masses of a claim, and of a plain step
    pub claim-next-same : table M.cells (updated M (mass S) (claimed k)) ≡ claim_next01 M field k
    unfolding updated
    claim-next-same = table-cong 0 M.cells (updated M (mass S) (claimed k)) (updated M (mass S₀) (claimed k))
        (λ c h. rw (sym (unraised-mass M field k long none c h)))

    pub low_same : table M.cells (updated M (mass S) (carried S)) ≡ table M.cells (low S₀)
    unfolding updated low
    low_same = table-cong 0 M.cells (updated M (mass S) (carried S)) (low S₀) (λ c h. rw (
      sym (unraised-mass M field k long none c h),
      sym (incoming-agree M M refl (λ f l. (refl, refl)) (carried S) (carried S₀) (carried-agree S S₀ few fit alike) c),
      sym (outgoing-agree M M refl (λ f l. (refl, refl)) (carried S) (carried S₀) (carried-agree S S₀ few fit alike) c),
    ))

  -- past 1 and 5 the mesh is fit
  worked-few : worked ≡ fine → M.cells ≤ 4095
  worked-few e = (counted M (all-fine worked_causes e).0).few_cells

  worked_fit : worked ≡ fine → MeshFit M
  worked_fit e = mesh-fit M (all-fine worked_causes e).1.1.1.1.0

  pub claim-verdict-same : claim_verdict M field k ≡ claim_verdict01 M field k
  unfolding claim_verdict
  claim-verdict-same = ap (λ (v : Verdict). v and_then amounts_verdict S (claimed k)) unworked-same
      ∙ second-same worked (amounts_verdict S (claimed k)) (amounts_verdict S₀ (claimed k)) (λ e. amounts-same (worked-few e) (worked_fit e))
