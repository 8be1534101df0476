-- What these calls are refused for has small places: cells that have been counted, positions of tables, and pages of 32 bits.
use Prim.Native.Nat.{ℕ, ◌<◌}
use mathlib.Core.Path.{◌≡◌}
use mathlib.Core.List.{List, [], ◌∷◌}
use native.Mathlib.Omega.{arith}
use lib.Dec.{ltb}
use Rattle.model.specs.Mesh.{ceiling}
use Rattle.model.specs.Causes.{Verdict, fine, need, long, cells_only, counts, mesh_tables, field_table, mesh_values, field_values}
use Rattle.model.proofs.Verdicts.{all-fine}
use Rattle.public_marks.specs.Marks.{marks_long}
use Rattle.page.specs.Page.{rest_places, pages, page_bytes}
use Rattle.page.specs.Answers.{verdict_with}
use Rattle.public_page.specs.Public.{public_page_verdict}
use Rattle.host_answer.specs.Number.{cause_step}
use Rattle.host_answer.proofs.Small.{Small, small-then, small-need, small-each, small-after}
use Rattle.host_answer.proofs.Tables.{few-of, counts-small, mesh-tables-small, mesh-values-small, field-table-small, field-values-small}

module _ (further : Verdict) (volumes masses : List ℕ) (cells page room : ℕ) where
  abbrev page_causes : List Verdict
  page_causes =
      counts (cells_only cells volumes)
      ∷ mesh_tables (cells_only cells volumes)
      ∷ field_table (cells_only cells volumes) masses
      ∷ long 12 (page_bytes (rest_places cells volumes) cells page) room
      ∷ further
      ∷ mesh_values ceiling (cells_only cells volumes)
      ∷ field_values (cells_only cells volumes) masses
      ∷ need 14 page (ltb page (pages cells))
      ∷ []

  pub page-small : Small further → page < cause_step → Small (verdict_with further volumes masses cells page room)
  unfolding verdict_with
  page-small s h = small-after page_causes (
    counts-small (cells_only cells volumes),
    (λ e.
        let few = few-of (cells_only cells volumes) e in (
          mesh-tables-small _,
          (
            field-table-small _ few masses,
            (
              small-need 2 12 _ (omega arith),
              (
                s,
                (
                  mesh-values-small _ few ceiling,
                  (
                    field-values-small _ few masses,
                    (small-need 14 page _ (omega arith), tt),
                  ),
                ),
              ),
            ),
          ),
        )),
  )

  cells-few : verdict_with further volumes masses cells page room ≡ fine → cells < cause_step
  unfolding verdict_with
  cells-few e = (few-of (cells_only cells volumes) (all-fine page_causes e).0).0

pub public-page-small : (volumes masses marks : List ℕ) (cells page room : ℕ) → page < cause_step
    → Small (public_page_verdict volumes masses marks cells page room)
unfolding public_page_verdict
public-page-small volumes masses marks cells page room h = small-then _ _
    (page-small (marks_long marks cells) volumes masses cells page room (small-need 2 19 _ (omega arith)) h)
    (λ e. small-each 27 cells _ (omega (arith, cells-few (marks_long marks cells) volumes masses cells page room e)))
