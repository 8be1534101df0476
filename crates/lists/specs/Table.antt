-- Lists made from a function of the index, and lists written over longer ones.
use Rattle.std.specs.Prelude.{ℕ, zero, suc, List, [], ◌∷◌, ◌++◌, length, drop}

-- the list f 0, .., f (n - 1)
unfoldable pub table {ℓ} : {A : Type ℓ} → ℕ → (ℕ → A) → List A
table zero f = []
table (suc n) f = f zero ∷ table n (λ k. f (suc k))

-- the list xs written over the front of ys: entries past its end stay
unfoldable pub over {ℓ} : {A : Type ℓ} → List A → List A → List A
over xs ys = xs ++ drop (length xs) ys
