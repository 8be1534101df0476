-- A field raised by releases: its length, its masses, its total.
use Prim.Native.Nat.{ℕ, ◌+◌, ◌<◌}
use mathlib.Core.Path.{◌≡◌}
use mathlib.Core.List.{List}
use native.Mathlib.Omega.{arith}
use lib.ListN.{length, get_or}
use Rattle.lists.specs.Fold.{sum}
use Rattle.lists.proofs.Sums.{sum-add, sum-cong}
use Rattle.lists.proofs.Tables.{length-table, get_or-table}
use Rattle.model.specs.Step.{raised, released_mass}

module _ (cells : ℕ) (field releases : List ℕ) where
  abbrev both : ℕ → ℕ
  both c = get_or field c 0 + get_or releases c 0

  pub raised_long : length (raised cells field releases) ≡ cells
  unfolding raised
  raised_long = length-table cells both

  pub raised_at : (c : ℕ) → c < cells → get_or (raised cells field releases) c 0 ≡ get_or field c 0 + get_or releases c 0
  unfolding raised
  raised_at c h = get_or-table cells both 0 c h

  pub raised-sum : sum cells (λ c. get_or (raised cells field releases) c 0) ≡ sum cells (λ c. get_or field c 0) + released_mass cells releases
  unfolding released_mass
  raised-sum = omega (
    arith,
    sum-cong cells (λ c. get_or (raised cells field releases) c 0) both raised_at,
    sum-add cells (λ c. get_or field c 0) (λ c. get_or releases c 0),
  )
