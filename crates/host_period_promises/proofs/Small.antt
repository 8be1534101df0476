-- What these calls are refused for has small places: faces, bands and cells that have been counted, and names of 32 bits.
use Prim.Native.Nat.{ℕ, ◌<◌, ◌≤◌}
use mathlib.Core.Path.{◌≡◌}
use mathlib.Core.List.{List, [], ◌∷◌, ◌++◌}
use native.Mathlib.Omega.{arith}
use borrow.Author.Tests.{leb-true}
use lib.Dec.{leb}
use lib.IntN.{ℤ}
use lib.ListN.{length}
use Rattle.lists.proofs.Tests.{both_true}
use Rattle.model.specs.Mesh.{max_faces, ceiling}
use Rattle.model.specs.Causes.{accepted, fine, ◌and_then◌, need, each, cells_only}
use Rattle.model.proofs.Verdicts.{need-fine, all-fine}
use Rattle.charge_totals.specs.Totals.{lent_causes, gain_good, add_verdict}
use Rattle.charge.specs.Charge.{max_bands, last_end, band_good}
use Rattle.charge.specs.Answers.{bill_causes, charge_verdict, bill_of}
use Rattle.store_kept.specs.Store.{fields_in, held_under}
use Rattle.store_kept.specs.Tests.{count_good, name_new, room_left, name_kept}
use Rattle.store.specs.Calls.{store_table, drop_causes, drop_verdict, lent_mesh, opened_causes, opened_verdict, keep_causes, keep_verdict, return_causes, return_verdict}
use Rattle.host_answer.specs.Number.{cause_step}
use Rattle.host_answer.proofs.Small.{Small, small-need, small-each, small-after, small-giving}
use Rattle.host_answer.proofs.Tables.{Few, few-of, counts-small, mesh-tables-small, mesh-values-small, field-table-small, field-values-small}

pub add_small : (seconds : List ℕ) (moved : List ℤ) (totals : List ℕ) (faces : ℕ) → Small (add_verdict seconds moved totals faces)
unfolding add_verdict
add_small seconds moved totals faces = small-after
    (lent_causes faces (length seconds) (length moved) (length totals) ++ (each 26 faces (gain_good seconds moved totals) ∷ [])) (
      small-need 1 1 _ (omega arith),
      (λ e.
          let few : faces ≤ max_faces = leb-true _ _ (need-fine 1 1 _ e) in
          (small-need 2 2 _ (omega arith), (small-need 2 9 _ (omega arith), (small-need 2 16 _ (omega arith), (small-each 26 _ _ (omega (arith, few)), tt))))),
    )

pub charge-small : (ends prices : List ℕ) (total bands remainder : ℕ)
    → Small (charge_verdict ends prices total bands remainder and_then accepted (bill_of ends prices total bands remainder))
unfolding charge_verdict
charge-small ends prices total bands remainder = small-giving _ (small-after
    (bill_causes bands (length ends) (length prices) remainder ++ (each 25 bands (band_good ends prices bands) ∷ need 26 0 (leb total last_end) ∷ [])) (
      small-need 25 0 _ (omega arith),
      (λ e.
          let few : bands ≤ max_bands = leb-true _ _ (both_true (leb 1 bands) (leb bands max_bands) (need-fine 25 0 _ e)).1 in (
            small-need 2 17 _ (omega arith),
            (
              small-need 2 18 _ (omega arith),
              (
                small-need 25 0 _ (omega arith),
                (small-each 25 _ _ (omega (arith, few)), (small-need 26 0 _ (omega arith), tt)),
              ),
            ),
          )),
    ))

module _ (cells : ℕ) (store : List ℕ) (name : ℕ) (short : name < cause_step) where
  store-small : Small (store_table cells store)
  unfolding store_table
  store-small = small-need 2 13 _ (omega arith)

  count_small : Small (count_good cells store)
  unfolding count_good
  count_small = small-need 13 1 _ (omega arith)

  new-small : Small (name_new cells store name)
  unfolding name_new
  new-small = small-need 15 name _ (omega arith)

  room_small : Small (room_left cells store name)
  unfolding room_left
  room_small = small-need 16 name _ (omega arith)

  kept_small : Small (name_kept cells store name)
  unfolding name_kept
  kept_small = small-need 17 name _ (omega arith)

  pub drop-small : Small (drop_verdict cells store name)
  unfolding drop_verdict
  drop-small = small-after (drop_causes cells store name) (counts-small (cells_only cells []), (λ e. (store-small, (count_small, (kept_small, tt)))))

  module _ (volumes masses : List ℕ) where
    opened-small : Small (opened_verdict cells volumes masses store)
    unfolding opened_verdict
    opened-small = small-after (opened_causes cells volumes masses store) (
      counts-small _,
      (λ e.
          let few = few-of (lent_mesh cells volumes masses store) e in
          (mesh-tables-small _, (field-table-small _ few masses, (store-small, (mesh-values-small _ few ceiling, tt))))),
    )

    opened-few : opened_verdict cells volumes masses store ≡ fine → Few (lent_mesh cells volumes masses store)
    unfolding opened_verdict
    opened-few e = few-of (lent_mesh cells volumes masses store) (all-fine (opened_causes cells volumes masses store) e).0

    pub keep-small : Small (keep_verdict cells volumes masses store name)
    unfolding keep_verdict
    keep-small = small-after (keep_causes cells volumes masses store name) (
      opened-small,
      (λ e.
          (field-values-small _ (opened-few e) masses, (count_small, (new-small, (room_small, tt))))),
    )

    pub return-small : Small (return_verdict cells volumes masses store name)
    unfolding return_verdict
    return-small = small-after (return_causes cells volumes masses store name) (
      opened-small,
      (λ e.
          (count_small, (kept_small, (field-values-small _ (opened-few e) (held_under name (fields_in cells store)), tt)))),
    )
