-- What calls find in tables lent: a place is a cell, a face or the position of a table, once the counts have been tested.
use Prim.Native.Nat.{ℕ, ◌<◌}
use mathlib.Core.Path.{◌≡◌}
use mathlib.Core.List.{List, [], ◌∷◌}
use native.Mathlib.Omega.{arith}
use lib.IntN.{ℤ}
use Rattle.model.specs.Mesh.{Mesh, ceiling}
use Rattle.model.specs.Causes.{fine, Call, counts_within, counts, mesh_lengths, mesh_tables, mesh_causes, mesh_values, field_table, field_values, mesh_field_verdict, step_lengths, step_tables, raised_values, water_causes, step_values, step_causes, verdict, input_of}
use Rattle.model.specs.Claims.{claimed, claim_lengths, claim_tables, amount_causes, amounts_verdict, unworked_causes, unworked_verdict, claim_verdict}
use Rattle.model.specs.Calls.{corrected, plain, judged, step_answer}
use Rattle.model.specs.Step.{StepInput}
use Rattle.model.proofs.Accepted.{counted}
use Rattle.model.proofs.Verdicts.{all-fine}
use Rattle.host_answer.specs.Number.{cause_step}
use Rattle.host_answer.proofs.Small.{Small, small-then, small-and, small-need, small-each, small-after, small-turn, small-giving}

-- so many cells and faces that each is a place
abbrev pub Few : Mesh → Type 0
Few M = (M.cells < cause_step) × (M.faces < cause_step)

pub few-of : (M : Mesh) → counts M ≡ fine → Few M
few-of M e = let c = counted M e in (omega (arith, c.few_cells), omega (arith, c.few_faces))

module _ (M : Mesh) where
  pub counts-small : Small (counts M)
  unfolding counts counts_within
  counts-small = small-and (small-need 1 0 _ (omega arith)) (small-need 1 1 _ (omega arith))

  pub mesh-tables-small : Small (mesh_tables M)
  unfolding mesh_tables
  mesh-tables-small = small-turn (mesh_lengths M) (
    small-need 2 0 _ (omega arith),
    (
      small-need 2 1 _ (omega arith),
      (small-need 2 2 _ (omega arith), (small-need 2 3 _ (omega arith), (small-need 2 4 _ (omega arith), tt))),
    ),
  )

module _ (M : Mesh) (few : Few M) where
  pub mesh-values-small : (most : ℕ) → Small (mesh_values most M)
  unfolding mesh_values
  mesh-values-small most = small-turn (mesh_causes most M) (
    small-each 3 _ _ (omega arith),
    (small-each 4 _ _ (omega arith), (small-each 5 _ _ (omega arith), tt)),
  )

  module _ (masses : List ℕ) where
    pub field-table-small : Small (field_table M masses)
    unfolding field_table
    field-table-small = small-need 2 5 _ (omega arith)

    pub field-values-small : Small (field_values M masses)
    unfolding field_values
    field-values-small = small-each 6 _ _ (omega arith)

    module _ (k : Call) where
      pub step-tables-small : Small (step_tables M masses k)
      unfolding step_tables
      step-tables-small = small-turn (step_lengths M.cells M.faces k) (
        small-need 2 6 _ (omega arith),
        (
          small-need 2 7 _ (omega arith),
          (
            small-need 2 8 _ (omega arith),
            (
              small-need 2 9 _ (omega arith),
              (small-need 2 10 _ (omega arith), (small-need 2 14 _ (omega arith), tt)),
            ),
          ),
        ),
      )

      pub claim-tables-small : Small (claim_tables M masses k)
      unfolding claim_tables
      claim-tables-small = small-turn (claim_lengths M.cells M.faces k) (
        small-need 2 6 _ (omega arith),
        (
          small-need 2 7 _ (omega arith),
          (small-need 2 8 _ (omega arith), (small-need 2 9 _ (omega arith), (small-need 2 14 _ (omega arith), tt))),
        ),
      )

      pub raised-values-small : Small (raised_values M masses k)
      unfolding raised_values
      raised-values-small = small-each 18 _ _ (omega arith)

      pub step-values-small : (most : ℕ) → Small (step_values most M masses k)
      unfolding step_values
      step-values-small most = small-turn (water_causes most M masses k)
          (small-each 7 _ _ (omega arith), (small-each 8 _ _ (omega arith), (small-each 9 _ _ (omega arith), (small-each 10 _ _ (omega arith), tt))))

-- 21 and 22
amounts-small : (S : StepInput) (x : ℕ → ℤ) → Few S.mesh → Small (amounts_verdict S x)
unfolding amounts_verdict
amounts-small S x few = small-turn (amount_causes S x) (small-each 21 _ _ (omega arith), (small-each 22 _ _ (omega arith), tt))

module _ (M : Mesh) (masses : List ℕ) where
  -- of a call that is lent a field
  pub mesh-field-small : Small (mesh_field_verdict M masses)
  unfolding mesh_field_verdict
  mesh-field-small = small-after (counts M ∷ mesh_tables M ∷ field_table M masses ∷ mesh_values ceiling M ∷ field_values M masses ∷ []) (
    counts-small M,
    (λ e.
        let few = few-of M e in
        (mesh-tables-small M, (field-table-small M few masses, (mesh-values-small M few ceiling, (field-values-small M few masses, tt))))),
  )

  module _ (k : Call) where
    -- of a step
    pub verdict-small : Small (verdict M masses k)
    unfolding verdict
    verdict-small = small-after (step_causes M masses k) (
      counts-small M,
      (λ e.
          let few = few-of M e in (
            mesh-tables-small M,
            (
              field-table-small M few masses,
              (
                step-tables-small M few masses k,
                (
                  mesh-values-small M few ceiling,
                  (field-values-small M few masses, (raised-values-small M few masses k, (step-values-small M few masses k ceiling, tt))),
                ),
              ),
            ),
          )),
    )

    unworked-small : Small (unworked_verdict M masses k)
    unfolding unworked_verdict
    unworked-small = small-after (unworked_causes M masses k) (
      counts-small M,
      (λ e.
          let few = few-of M e in (
            mesh-tables-small M,
            (
              field-table-small M few masses,
              (
                claim-tables-small M few masses k,
                (
                  mesh-values-small M few ceiling,
                  (field-values-small M few masses, (raised-values-small M few masses k, (step-values-small M few masses k ceiling, tt))),
                ),
              ),
            ),
          )),
    )

    unworked-few : unworked_verdict M masses k ≡ fine → Few M
    unfolding unworked_verdict
    unworked-few e = few-of M (all-fine (unworked_causes M masses k) e).0

    -- of a claim
    pub claim-small : Small (claim_verdict M masses k)
    unfolding claim_verdict
    claim-small = small-then _ _ unworked-small (λ e. amounts-small (input_of M masses k) (claimed k) (unworked-few e))

    pub step-answer-small : Small (step_answer corrected M k masses)
    unfolding step_answer
    step-answer-small = small-giving _ verdict-small

    pub plain-answer-small : Small (step_answer plain M k masses)
    unfolding step_answer
    plain-answer-small = small-giving _ verdict-small

    pub judged-answer-small : Small (step_answer judged M k masses)
    unfolding step_answer
    judged-answer-small = small-giving _ claim-small
