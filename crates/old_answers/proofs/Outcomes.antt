-- What comes after a test matters only where it passes; and the tables that a call leaves, by the verdict and by what it writes.
use mathlib.Core.Path.{◌≡◌, refl, ap, ◌∙◌}
use mathlib.Core.List.{List}
use native.Mathlib.Omega.{arith}
use Prim.Native.Nat.{ℕ}
use Rattle.lists.specs.Table.{over}
use Rattle.model.specs.Causes.{Outcome, accepted, refused, Verdict, fine, ◌and_then◌, granted}

pub same_after : {A : Type 0} (v : Verdict) (x y : Outcome A) → (v ≡ fine → x ≡ y) → (v and_then x) ≡ (v and_then y)
unfolding ◌and_then◌
same_after (accepted _) x y h = h refl
same_after (refused i j) x y h = refl

pub same-granted : {B : Type 0} (v : Verdict) (x y z : B) → (v ≡ fine → x ≡ y) → granted v x z ≡ granted v y z
same-granted (accepted _) x y z h = h refl
same-granted (refused i j) x y z h = refl

pub granted-then : {A B : Type 0} (v : Verdict) (a : A) (x z : B) → granted (v and_then accepted a) x z ≡ granted v x z
unfolding ◌and_then◌
granted-then (accepted _) a x z = refl
granted-then (refused i j) a x z = refl

-- two answers with a value that are the same, found the same
pub same-found : {A : Type 0} (v w : Verdict) (x y : A) → (v and_then accepted x) ≡ (w and_then accepted y) → v ≡ w
unfolding ◌and_then◌
same-found (accepted _) (accepted _) x y e = refl
same-found (accepted _) (refused i j) x y e = let z : ◌≡◌ {A = ℕ} 0 1 = cc in absurd (omega arith)
same-found (refused i j) (accepted _) x y e = let z : ◌≡◌ {A = ℕ} 0 1 = cc in absurd (omega arith)
same-found (refused i j) (refused k l) x y e = cc

-- a table after u, by a v that is the same and by values that are the same where it passes
pub filled : {B : Type 0} {u v : Verdict} {new old t' : List B} (t : List B) → u ≡ v → (v ≡ fine → new ≡ old) → t' ≡ granted u (over new t) t → t'
    ≡ granted v (over old t) t
filled {u = u} {v = v} {new = new} {old = old} t e h q =
    q ∙ ap (λ (x : Verdict). granted x (over new t) t) e ∙ same-granted v (over new t) (over old t) t (λ f. ap (λ l. over l t) (h f))
