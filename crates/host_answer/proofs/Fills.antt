-- Numbers put one after another, each where there is room, fill the front.
use Prim.Native.Nat.{ℕ, zero, suc, ◌≤◌}
use mathlib.Core.Path.{◌≡◌, refl, ap}
use mathlib.Core.List.{List, [], ◌∷◌, ◌++◌}
use native.Mathlib.Nat.{not-suc-le-zero, le_of_suc-le-suc}
use lib.ListN.{length, set, take, drop}
use Rattle.host_answer.specs.Found.{filled}

-- past the end nothing is set
pub set_past : (ys : List ℕ) (i x : ℕ) → length ys ≤ i → set ys i x ≡ ys
set_past [] i x h = refl
set_past (y ∷ ys) zero x h = absurd (not-suc-le-zero h)
set_past (y ∷ ys) (suc i) x h = ap (λ t. y ∷ t) (set_past ys i x (le_of_suc-le-suc h))

-- one number more
pub filled_on : (xs : List ℕ) (x : ℕ) (ys : List ℕ) → set (filled xs ys) (length xs) x ≡ filled (xs ++ (x ∷ [])) ys
unfolding filled
filled_on [] x [] = refl
filled_on [] x (y ∷ ys) = refl
filled_on (w ∷ xs) x [] = refl
filled_on (w ∷ xs) x (y ∷ ys) = ap (λ t. w ∷ t) (filled_on xs x ys)

-- in one line: what there is room for of the numbers, then what stood past them
take_none : (n : ℕ) → take {A = ℕ} n [] ≡ []
take_none zero = refl
take_none (suc n) = refl

pub filled_is : (xs ys : List ℕ) → filled xs ys ≡ take (length ys) xs ++ drop (length xs) ys
unfolding filled
filled_is [] ys = rw (take_none (length ys))
filled_is (x ∷ xs) [] = refl
filled_is (x ∷ xs) (y ∷ ys) = ap (λ t. x ∷ t) (filled_is xs ys)

pub filled-first : (a : ℕ) (ys : List ℕ) → set ys 0 a ≡ filled (a ∷ []) ys
unfolding filled
filled-first a [] = refl
filled-first a (y ∷ ys) = refl
