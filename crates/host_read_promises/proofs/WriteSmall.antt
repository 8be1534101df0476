-- What a writer refuses has small places: cells, faces and positions of tables, once the counts have been tested.
use Prim.Native.Nat.{ℕ}
use mathlib.Core.List.{List, [], ◌∷◌}
use native.Mathlib.Omega.{arith}
use lib.IntN.{ℤ}
use Rattle.model.specs.Mesh.{Mesh}
use Rattle.model.specs.Causes.{counts}
use Rattle.record_layouts.specs.declared.Width.{Width}
use Rattle.record_writing.specs.Writing.{most_of, mesh_write_verdict, field_write_verdict, step_write_verdict}
use Rattle.host_answer.proofs.Small.{Small, small-need, small-each, small-after}
use Rattle.host_answer.proofs.Tables.{few-of, counts-small, mesh-tables-small, mesh-values-small, field-table-small, field-values-small}

module _ (w : Width) (M : Mesh) (room : ℕ) where
  pub mesh-write-small : Small (mesh_write_verdict w M room)
  unfolding mesh_write_verdict
  mesh-write-small = small-after (counts M ∷ _ ∷ _ ∷ _ ∷ []) (
    counts-small M,
    (λ e.
        let few = few-of M e in
        (mesh-tables-small M, (small-need 2 11 _ (omega arith), (mesh-values-small M few (most_of w), tt)))),
  )

  pub field-write-small : (masses : List ℕ) → Small (field_write_verdict w M masses room)
  unfolding field_write_verdict
  field-write-small masses = small-after (counts M ∷ _ ∷ _ ∷ _ ∷ _ ∷ _ ∷ []) (
    counts-small M,
    (λ e.
        let few = few-of M e in (
          mesh-tables-small M,
          (
            field-table-small M few masses,
            (
              small-need 2 11 _ (omega arith),
              (mesh-values-small M few (most_of w), (field-values-small M few masses, tt)),
            ),
          ),
        )),
  )

  pub step-write-small : (kind : ℕ) (fluxes : List ℤ) (outsides releases : List ℕ) → Small (step_write_verdict w M kind fluxes outsides releases room)
  unfolding step_write_verdict
  step-write-small kind fluxes outsides releases = small-after (counts M ∷ _ ∷ _ ∷ _ ∷ _ ∷ _ ∷ _ ∷ _ ∷ _ ∷ _ ∷ []) (
    counts-small M,
    (λ e.
        let few = few-of M e in (
          mesh-tables-small M,
          (
            small-need 2 6 _ (omega arith),
            (
              small-need 2 7 _ (omega arith),
              (
                small-need 2 11 _ (omega arith),
                (
                  small-need 2 14 _ (omega arith),
                  (
                    mesh-values-small M few (most_of w),
                    (small-each 18 M.cells _ (omega arith), (small-each 7 M.faces _ (omega arith), (small-each 8 M.faces _ (omega arith), tt))),
                  ),
                ),
              ),
            ),
          ),
        )),
  )
