-- What cutting refuses has a small place: a cell, a face, a label or the position of a table. So its number fits into 64 bits, and a host can
-- take it apart.
use Prim.Native.Nat.{ℕ, ◌≤◌}
use mathlib.Core.Path.{◌≡◌}
use mathlib.Core.List.{List, [], ◌∷◌}
use native.Mathlib.Omega.{arith}
use lib.ListN.{length}
use Rattle.model.specs.Mesh.{ceiling}
use Rattle.model.specs.Causes.{fine, counts, long}
use Rattle.host_answer.proofs.Small.{Small, small-need, small-each, small-after, small-turn, small-giving}
use Rattle.host_answer.proofs.Tables.{few-of, counts-small, mesh-values-small, field-values-small, raised-values-small, step-values-small}
use Rattle.cutting_parts.specs.Cut.{Tables, Lagoon, whole_mesh, whole_water}
use Rattle.cutting_parts.specs.Refusals.{parts, label_causes, label_values, all_long, cut_lengths, cut_tables, cut_causes, cut_verdict, cut_answer}

module _ (L : Lagoon) (labels : List ℕ) (lent₀ lent₁ : Tables) where
  -- the three tables of one position
  all-long-small : (position wanted : ℕ) (has : Tables → ℕ) → position ≤ 14 → Small (all_long L labels lent₀ lent₁ position wanted has)
  all-long-small position wanted has h = small-turn
      (long position wanted (has L.tables) ∷ long position wanted (has lent₀) ∷ long position wanted (has lent₁) ∷ [])
      (small-need 2 position _ (omega (arith, h)), (small-need 2 position _ (omega (arith, h)), (small-need 2 position _ (omega (arith, h)), tt)))

  tables-small : Small (cut_tables L labels lent₀ lent₁)
  unfolding cut_tables
  tables-small =
      let volumes = all-long-small 0 L.cells (λ t. length t.volumes) (omega arith) in
      let firsts = all-long-small 1 L.faces (λ t. length t.firsts) (omega arith) in
      let seconds = all-long-small 2 L.faces (λ t. length t.seconds) (omega arith) in
      let shares = all-long-small 3 L.faces (λ t. length t.shares) (omega arith) in
      let reaches = all-long-small 4 L.faces (λ t. length t.reaches) (omega arith) in
      let masses = all-long-small 5 L.cells (λ t. length t.masses) (omega arith) in
      let fluxes = all-long-small 6 L.faces (λ t. length t.fluxes) (omega arith) in
      let outsides = all-long-small 7 L.faces (λ t. length t.outsides) (omega arith) in
      let releases = all-long-small 14 L.cells (λ t. length t.releases) (omega arith) in
      small-turn (cut_lengths L labels lent₀ lent₁)
      (volumes, (firsts, (seconds, (shares, (reaches, (masses, (fluxes, (outsides, (releases, (small-need 2 15 _ (omega arith), tt))))))))))

  labels-small : counts (whole_mesh L) ≡ fine → Small (label_values L labels)
  unfolding label_values
  labels-small e = small-turn (label_causes L labels) (small-each 23 _ _ (omega (arith, few-of (whole_mesh L) e)), (small-each 24 parts _ (omega arith), tt))

  verdict-small : Small (cut_verdict L labels lent₀ lent₁)
  unfolding cut_verdict
  verdict-small = small-after (cut_causes L labels lent₀ lent₁) (
    counts-small (whole_mesh L),
    (λ e.
        let few = few-of (whole_mesh L) e in
        let mesh = mesh-values-small (whole_mesh L) few ceiling in
        let field = field-values-small (whole_mesh L) few L.tables.masses in
        let raised = raised-values-small (whole_mesh L) few L.tables.masses (whole_water L) in
        let water = step-values-small (whole_mesh L) few L.tables.masses (whole_water L) ceiling in
        (tables-small, (mesh, (labels-small e, (field, (raised, (water, tt))))))),
  )

  pub cut-answer-small : Small (cut_answer L labels lent₀ lent₁)
  unfolding cut_answer
  cut-answer-small = small-giving _ verdict-small
