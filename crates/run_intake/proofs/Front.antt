-- Reads into the rest of a buffer leave its front, so that a head stays while what it asks for comes.
use Prim.Native.Nat.{ℕ, zero, suc, ◌+◌, ◌≤◌}
use mathlib.Core.Path.{◌≡◌, refl, sym, ap, ◌∙◌}
use mathlib.Core.List.{List, [], ◌∷◌, ◌++◌}
use native.Mathlib.Omega.{arith}
use lib.ListN.{length, take}
use lib.Seq.{take_at, length-take-le}
use Rattle.model.specs.Causes.{Outcome}
use Rattle.run_intake.specs.Intake.{still_needed, Asked}

-- a part that ends where another begins
pub front_kept : (at : ℕ) (l r : List ℕ) → at ≤ length l → take at (take at l ++ r) ≡ take at l
front_kept at l r h = take_at (take at l) r at (length-take-le at l h)

take_less : (n m : ℕ) (l : List ℕ) → n ≤ m → take n (take m l) ≡ take n l
take_less zero m l h = refl
take_less (suc n) zero l h = absurd (omega arith)
take_less (suc n) (suc m) [] h = refl
take_less (suc n) (suc m) (x ∷ xs) h = ap (λ (t : List ℕ). x ∷ t) (take_less n m xs (omega arith))

-- what is the same up to m is the same up to n
pub shorter : (n m : ℕ) (x y : List ℕ) → n ≤ m → take m x ≡ take m y → take n x ≡ take n y
shorter n m x y h e = sym (take_less n m x h) ∙ ap (take n) e ∙ take_less n m y h

-- a head that failed, or that came and was followed by what it asks for
pub asked-head : (head : ℕ) (needs : List ℕ → Outcome ℕ) (bytes : List ℕ) (count : ℕ) → count ≤ head → Asked head needs bytes count
asked-head head needs bytes count h = record { come = count; of_the_head = h; counted = omega arith; no_more = omega arith }

pub asked-rest : (head : ℕ) (needs : List ℕ → Outcome ℕ) (bytes before : List ℕ) (come count : ℕ) (said : Outcome ℕ) → come ≤ head → come ≤ count
    → said ≡ needs (take come before) → take come bytes ≡ take come before → count ≤ come + still_needed said come → Asked head needs bytes count
asked-rest head needs bytes before come count said h l e k m =
    record { come = come; of_the_head = h; counted = l; no_more = rw (k, ← e) m }
