-- Of a field on an accepted mesh only cause 6 is left to find.
use Prim.Native.Nat.{ℕ, ◌≤◌}
use mathlib.Core.Path.{◌≡◌, refl}
use mathlib.Core.List.{List}
use borrow.Author.Tests.{le-leb}
use lib.ListN.{length}
use Rattle.lists.proofs.Tests.{true-both}
use Rattle.model.specs.Mesh.{Mesh, max_cells, ceiling}
use Rattle.model.specs.Causes.{fine, ◌and_then◌, need, each, cells_only, counts_within, counts, mesh_tables, volume_good, mesh_values, mesh_causes, mesh_verdict, field_table, salt_good, field_values, mesh_field_verdict}
use Rattle.model.proofs.Verdicts.{all-fine, need-met}
use Rattle.model.proofs.Accepted.{counted}
use Rattle.renumbered.proofs.TwoSteps.{fine-counts, fine-values, lent}

module _ (M : Mesh) (field : List ℕ) (mesh_fine : mesh_verdict M ≡ fine) (masses_long : M.cells ≤ length field) where
  abbrev N : Mesh
  N = cells_only M.cells M.volumes

  counts-left : counts N ≡ fine
  unfolding counts counts_within ◌and_then◌
  counts-left = let c = counted M (fine-counts M mesh_fine) in
      rw (need-met 1 0 (true-both (le-leb 1 M.cells c.some) (le-leb M.cells max_cells c.few_cells))) (need-met 1 1 refl)

  tables-left : mesh_tables N ≡ fine
  unfolding mesh_tables ◌and_then◌ need
  tables-left = rw (le-leb M.cells (length M.volumes) (lent M mesh_fine).volumes_long)

  values-left : mesh_values ceiling N ≡ fine
  unfolding mesh_values volume_good each ◌and_then◌
  values-left = let v = all-fine (mesh_causes ceiling M) (fine-values M mesh_fine) in rw v.0

  pub salt-left : mesh_field_verdict N field ≡ field_values M field
  unfolding mesh_field_verdict field_table field_values salt_good ◌and_then◌
  salt-left = rw (counts-left, tables-left, need-met 2 5 (le-leb M.cells (length field) masses_long), values-left)
