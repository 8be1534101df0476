-- Things of which some are marked: how many marked ones come before a number, the old number of each, and a table of them in their old order.
use Rattle.std.specs.Prelude.{ℕ, zero, suc, Bool, cond, ◌&&◌, List, eqb}
use Rattle.lists.specs.Fold.{sum}
use Rattle.lists.specs.Table.{table}

-- how many below n are marked
unfoldable pub count : ℕ → (ℕ → Bool) → ℕ
count n marked = sum n (λ i. cond (marked i) 1 0)

-- the old number, below n, of the marked thing that i marked ones come before
unfoldable pub old : ℕ → (ℕ → Bool) → ℕ → ℕ
old zero marked i = 0
old (suc n) marked i = cond (marked n && eqb (count n marked) i) n (old n marked i)

-- what `entry` says of each marked thing below n, in their old order
unfoldable pub picked : {A : Type 0} → ℕ → (ℕ → Bool) → (ℕ → A) → List A
picked n marked entry = table (count n marked) (λ i. entry (old n marked i))
