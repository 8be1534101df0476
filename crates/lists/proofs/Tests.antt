-- What a test on numbers comes to, with what it says. A proof goes by cases on `same? m n` or `fits? m n`.
use Prim.Native.Nat.{ℕ, ◌≤◌, ◌<◌}
use mathlib.Core.Path.{◌≡◌, refl, sym}
use mathlib.Core.Logic.{◌≢◌}
use mathlib.Core.Bool.{Bool, true, false, cond, ◌&&◌, ◌||◌, true≢false}
use borrow.Author.Tests.{eqb-true, eqb-false, leb-true, leb-false, eq-eqb, ne_eqb}
use lib.Dec.{eqb, leb}

pub data Same (m n : ℕ) : Bool → Type 0 where
  same : m ≡ n → Same m n true
  other : m ≢ n → Same m n false

pub same? : (m n : ℕ) → Same m n (eqb m n)
same? m n = go (eqb m n) refl
  where
    go : (b : Bool) → eqb m n ≡ b → Same m n b
    go true e = same (eqb-true m n e)
    go false e = other (eqb-false m n e)

pub data Fits (m n : ℕ) : Bool → Type 0 where
  fits : m ≤ n → Fits m n true
  exceeds : n < m → Fits m n false

pub fits? : (m n : ℕ) → Fits m n (leb m n)
fits? m n = go (leb m n) refl
  where
    go : (b : Bool) → leb m n ≡ b → Fits m n b
    go true e = fits (leb-true m n e)
    go false e = exceeds (leb-false m n e)

-- a conjunction taken apart and put together
pub both_true : (a b : Bool) → (a && b) ≡ true → (a ≡ true) × (b ≡ true)
both_true true b e = (refl, e)
both_true false b e = absurd (true≢false (sym e))

pub true-both : {a b : Bool} → a ≡ true → b ≡ true → (a && b) ≡ true
true-both e d = rw (e, d)

pub either_true : (a b : Bool) → (a || b) ≡ true → b ≡ false → a ≡ true
either_true true b e d = refl
either_true false true e d = absurd (true≢false d)
either_true false false e d = absurd (true≢false (sym e))

-- either way the same
pub cond_same : {A : Type 0} (b : Bool) (x : A) → cond b x x ≡ x
cond_same true x = refl
cond_same false x = refl

-- an amount that is met at one index only
pub own : (c n : ℕ) → cond (eqb c c) n 0 ≡ n
own c n = rw (eq-eqb c c refl)

pub apart : (c d n : ℕ) → c ≢ d → cond (eqb c d) n 0 ≡ 0
apart c d n h = rw (ne_eqb c d h)
