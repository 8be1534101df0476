-- What a board is refused for has small places.
use Prim.Native.Nat.{ℕ}
use mathlib.Core.List.{List, [], ◌∷◌}
use native.Mathlib.Omega.{arith}
use Rattle.model.specs.Mesh.{ceiling}
use Rattle.model.specs.Causes.{cells_only, counts, mesh_tables, field_table, mesh_values, field_values}
use Rattle.public_marks.specs.Marks.{marks_long, marks_good}
use Rattle.public_board.specs.Public.{public_board_verdict}
use Rattle.host_answer.proofs.Small.{Small, small-need, small-each, small-after}
use Rattle.host_answer.proofs.Tables.{few-of, counts-small, mesh-tables-small, mesh-values-small, field-table-small, field-values-small}

pub public-small : (volumes masses marks : List ℕ) (cells : ℕ) → Small (public_board_verdict volumes masses marks cells)
unfolding public_board_verdict
public-small volumes masses marks cells =
    let M = cells_only cells volumes in
    small-after (counts M ∷ mesh_tables M ∷ field_table M masses ∷ marks_long marks cells ∷ mesh_values ceiling M ∷ field_values M masses
    ∷ marks_good marks cells ∷ []) (
      counts-small M,
      (λ e.
          let few = few-of M e in (
            mesh-tables-small M,
            (
              field-table-small M few masses,
              (
                small-need 2 19 _ (omega arith),
                (
                  mesh-values-small M few ceiling,
                  (
                    field-values-small M few masses,
                    (small-each 27 cells _ (omega (arith, few.0)), tt),
                  ),
                ),
              ),
            ),
          )),
    )
