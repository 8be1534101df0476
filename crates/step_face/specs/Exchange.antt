-- Amounts that pass through faces, one after another: document 01, "One step", stages 1 and 5.
use Rattle.std.specs.Prelude.{ℕ, ◌+◌, ◌≤◌, ◌<◌, ◌≡◌, ◌≢◌, cond, List, eqb, ℤ, length, get_or}
use Rattle.lists.specs.Fold.{sum}
use Rattle.signed.specs.Sign.{forward, backward}
use Rattle.model.specs.Mesh.{Mesh, rim, entering, leaving}

-- what an amount z through a face from l to k brings into cell c, and takes from it
abbrev pub brings : ℕ → ℕ → ℤ → ℕ → ℕ
brings l k z c = cond (eqb k c) (forward z) 0 + cond (eqb l c) (backward z) 0

abbrev pub takes : ℕ → ℕ → ℤ → ℕ → ℕ
takes l k z c = cond (eqb l c) (forward z) 0 + cond (eqb k c) (backward z) 0

-- the ends of a face are cells of a table of n entries, or the second is the rim
pub record EndsIn (n l k : ℕ) : Type 0 where
  pub few : n ≤ rim
  pub first-in : l < n
  pub second_in : k ≢ rim → k < n
  pub apart : l ≢ k

-- masses ys are xs after cell g has lost n, and after cell r has gained n
pub record Lost (xs : List ℕ) (g n : ℕ) (ys : List ℕ) : Type 0 where
  pub same_length : length ys ≡ length xs
  pub at : (c : ℕ) → c < length xs → get_or ys c 0 + cond (eqb g c) n 0 ≡ get_or xs c 0

pub record Gained (xs : List ℕ) (r n : ℕ) (ys : List ℕ) : Type 0 where
  pub same_length : length ys ≡ length xs
  pub at : (c : ℕ) → c < length xs → get_or ys c 0 ≡ get_or xs c 0 + cond (eqb r c) n 0

-- masses ys are xs after the amount z has passed through a face from l to k
pub record Transferred (xs : List ℕ) (l k : ℕ) (z : ℤ) (ys : List ℕ) : Type 0 where
  pub same_length : length ys ≡ length xs
  pub at : (c : ℕ) → c < length xs → get_or ys c 0 + takes l k z c ≡ get_or xs c 0 + brings l k z c

-- masses that start as m, after the amounts x have passed through the faces below f
pub record Flowing (M : Mesh) (x : ℕ → ℤ) (m : ℕ → ℕ) (f : ℕ) (next : List ℕ) : Type 0 where
  pub long : length next ≡ M.cells
  pub at : (c : ℕ) → c < M.cells → get_or next c 0 + sum f (leaving M x c) ≡ m c + sum f (entering M x c)
