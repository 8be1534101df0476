-- A mark as it is judged by the test of a loop, and two fields as their own tests judge them.
use Prim.Native.Nat.{ℕ, ◌≤◌, ◌<◌}
use mathlib.Core.Path.{◌≡◌, sym, ◌∙◌}
use mathlib.Core.Bool.{true, false}
use mathlib.Core.List.{List}
use native.Mathlib.Omega.{arith}
use borrow.Author.Tests.{le-leb, lt-leb}
use lib.ListN.{get_or}
use Rattle.model.specs.Causes.{cells_only, field_table, field_values, field_verdict}
use Rattle.model.proofs.Verdicts.{both-fine}
use Rattle.public_marks.specs.Marks.{mark_good, SameInOpen}

module _ (marks : List ℕ) where
  pub bad-mark : (c : ℕ) {m : ℕ} → m ≡ get_or marks c 0 → 1 < m → false ≡ mark_good marks c
  unfolding mark_good
  bad-mark c e h = sym (lt-leb (get_or marks c 0) 1 (omega arith))

  pub good-mark : (c : ℕ) {m : ℕ} → m ≡ get_or marks c 0 → m ≤ 1 → true ≡ mark_good marks c
  unfolding mark_good
  good-mark c e h = sym (le-leb (get_or marks c 0) 1 (omega arith))

-- two accepted fields pass the same tests
module _ {volumes marks : List ℕ} {cells : ℕ} {masses masses' : List ℕ} (s : SameInOpen volumes marks cells masses masses') where
  pub same_tests : (field_table (cells_only cells volumes) masses ≡ field_table (cells_only cells volumes) masses')
      × (field_values (cells_only cells volumes) masses ≡ field_values (cells_only cells volumes) masses')
  unfolding field_verdict
  same_tests =
      let M = cells_only cells volumes in
      let a = both-fine (field_table M masses) (field_values M masses) s.one_accepted in
      let b = both-fine (field_table M masses') (field_values M masses') s.other_accepted in
      (a.0 ∙ sym b.0, a.1 ∙ sym b.1)
