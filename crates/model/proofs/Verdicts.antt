-- Verdicts: what it means that one is fine, and how a scan finds the lowest place.
use Prim.Native.Nat.{ℕ, zero, suc, ◌+◌, ◌≤◌, ◌<◌}
use mathlib.Core.Path.{◌≡◌, refl, sym, ap, ◌∙◌}
use mathlib.Core.Bool.{Bool, true, false}
use native.Mathlib.Numerals.{add-one}
use native.Mathlib.Omega.{arith}
use mathlib.Core.List.{List, [], ◌∷◌, ◌++◌}
use borrow.Author.Tests.{leb-true, le-leb}
use lib.Dec.{eqb, leb}
use Rattle.lists.proofs.Tests.{Same, same, other, same?}
use Rattle.model.specs.Causes.{Outcome, accepted, refused, Verdict, fine, ◌and_then◌, first_of, in_turn, need, each, long}
use Rattle.model.specs.Answers.{told, said}
use Rattle.model.specs.declared.Refusal.{Refusal}
use Rattle.std.specs.Prelude.{Result, Ok, Err}

-- an answer that refuses, and one that does not
pub refuses : {v : Verdict} {a : Result (Unit {0}) Refusal} {r : Refusal} → said a ≡ v → a ≡ Err r → v ≡ told r
refuses e q = sym e ∙ ap said q

pub passes : {v : Verdict} {a : Result (Unit {0}) Refusal} → said a ≡ v → a ≡ Ok tt → v ≡ fine
passes e q = sym e ∙ ap said q

-- both parts are fine
pub both-fine : {A : Type 0} {x : A} (v : Verdict) (w : Outcome A) → (v and_then w) ≡ accepted x → (v ≡ fine) × (w ≡ accepted x)
unfolding ◌and_then◌
both-fine (accepted x) w e = (refl, e)
both-fine (refused k i) w e = let z : ◌≡◌ {A = ℕ} 0 1 = cc in absurd (omega arith)

-- how a call's tests go on: past a part that is fine, or out at one that refuses
pub past : {A : Type 0} {v : Verdict} (w : Outcome A) → v ≡ fine → (v and_then w) ≡ w
unfolding ◌and_then◌
past w e = rw e

pub out : {A : Type 0} {v : Verdict} {k i : ℕ} (w : Outcome A) → v ≡ refused k i → (v and_then w) ≡ refused k i
unfolding ◌and_then◌
out w e = rw e

-- all of a list are fine, as one product
abbrev pub AllFine : List Verdict → Type 0
AllFine [] = Unit {0}
AllFine (v ∷ vs) = (v ≡ fine) × AllFine vs

first_fine : (v : Verdict) (vs : List Verdict) → first_of v vs ≡ fine → (v ≡ fine) × AllFine vs
first_fine v [] e = (e, tt)
first_fine v (w ∷ ws) e = let p = first_fine (v and_then w) ws e in let q = both-fine v w p.0 in (q.0, (q.1, p.1))

pub all-fine : (vs : List Verdict) → in_turn vs ≡ fine → AllFine vs
all-fine [] e = tt
all-fine (v ∷ vs) e = first_fine v vs e

fine-first : (v : Verdict) (vs : List Verdict) → v ≡ fine → AllFine vs → first_of v vs ≡ fine
fine-first v [] e a = e
fine-first v (w ∷ ws) e a = fine-first (v and_then w) ws (past w e ∙ a.0) a.1

pub fine-all : (vs : List Verdict) → AllFine vs → in_turn vs ≡ fine
fine-all [] a = refl
fine-all (v ∷ vs) a = fine-first v vs a.0 a.1

-- the first of a list that refuses: those before it are fine, whatever those after it find
out_first : (v : Verdict) {k i : ℕ} (ws : List Verdict) → v ≡ refused k i → first_of v ws ≡ refused k i
out_first v [] e = e
out_first v (w ∷ ws) e = out_first (v and_then w) ws (out w e)

out-later : (u : Verdict) (us : List Verdict) {v : Verdict} {k i : ℕ} (ws : List Verdict) → u ≡ fine → AllFine us → v ≡ refused k i → first_of u (us ++ (v ∷ ws))
    ≡ refused k i
out-later u [] {v = v} ws e a q = out_first (u and_then v) ws (past v e ∙ q)
out-later u (w ∷ us) ws e a q = out-later (u and_then w) us ws (past w e ∙ a.0) a.1 q

pub refused-at : (us : List Verdict) {v : Verdict} {k i : ℕ} (ws : List Verdict) → AllFine us → v ≡ refused k i → in_turn (us ++ (v ∷ ws)) ≡ refused k i
refused-at [] ws a q = out_first _ ws q
refused-at (u ∷ us) ws a q = out-later u us ws a.0 a.1 q

-- what a call that gives x has found, by its answer
pub refused-of : {A : Type 0} (v : Verdict) (x : A) (k i : ℕ) → refused k i ≡ (v and_then accepted x) → v ≡ refused k i
unfolding ◌and_then◌
refused-of (accepted t) x k i e = let z : ◌≡◌ {A = ℕ} 0 1 = cc in absurd (omega arith)
refused-of (refused a b) x k i e = cc

pub accepted-of : {A : Type 0} (v : Verdict) (x y : A) → accepted y ≡ (v and_then accepted x) → (v ≡ fine) × (y ≡ x)
accepted-of v x y e = let p = both-fine v (accepted x) (sym e) in (p.0, cc)

-- two parts of a verdict, each by what it comes to
pub both-are : {u x y v w : Verdict} → u ≡ (x and_then y) → x ≡ v → y ≡ w → u ≡ (v and_then w)
both-are e p q = e ∙ rw (p, q)

pub and_then-assoc : {A : Type 0} (u v : Verdict) (w : Outcome A) → ((u and_then v) and_then w) ≡ (u and_then (v and_then w))
unfolding ◌and_then◌
and_then-assoc (accepted x) v w = refl
and_then-assoc (refused k i) v w = refl

pub need-fine : (k i : ℕ) (b : Bool) → need k i b ≡ fine → b ≡ true
unfolding need
need-fine k i true e = refl
need-fine k i false e = let z : ◌≡◌ {A = ℕ} 0 1 = cc in absurd (omega arith)

pub need-met : (k i : ℕ) {b : Bool} → b ≡ true → need k i b ≡ fine
unfolding need
need-met k i e = rw e

pub need-unmet : (k i : ℕ) {b : Bool} → b ≡ false → need k i b ≡ refused k i
unfolding need
need-unmet k i e = rw e

pub long-fine : (position wanted has : ℕ) → long position wanted has ≡ fine → wanted ≤ has
long-fine position wanted has e = leb-true wanted has (need-fine 2 position (leb wanted has) e)

pub long-met : (position wanted has : ℕ) → wanted ≤ has → long position wanted has ≡ fine
long-met position wanted has h = need-met 2 position (le-leb wanted has h)

pub each-fine : (k n : ℕ) (good : ℕ → Bool) → each k n good ≡ fine → (i : ℕ) → i < n → good i ≡ true
unfolding each
each-fine k zero good e i h = absurd (omega arith)
each-fine k (suc n) good e i h = go (eqb i n) (same? i n) (each-fine k n good (both-fine (each k n good) (need k n (good n)) e).0 i)
  where
    go : (b : Bool) → Same i n b → (i < n → good i ≡ true) → good i ≡ true
    go true (same d) ih = rw d (need-fine k n (good n) (both-fine (each k n good) (need k n (good n)) e).1)
    go false (other d) ih = ih (omega arith)

pub fine-each : (k n : ℕ) (good : ℕ → Bool) → ((i : ℕ) → i < n → good i ≡ true) → each k n good ≡ fine
unfolding each need ◌and_then◌
fine-each k zero good h = refl
fine-each k (suc n) good h = rw (fine-each k n good (λ i l. h i (omega arith)), h n (omega arith))

-- two tests that agree below n come to the same
pub each-cong : (k n : ℕ) (good also : ℕ → Bool) → ((i : ℕ) → i < n → good i ≡ also i) → each k n good ≡ each k n also
unfolding each
each-cong k zero good also h = refl
each-cong k (suc n) good also h = rw (each-cong k n good also (λ i l. h i (omega arith)), h n (omega arith))

-- a scan: nothing looked at yet, one more place that is good, the first that is not, and the end
pub scan-start : (k : ℕ) (good : ℕ → Bool) → each k 0 good ≡ fine
unfolding each
scan-start k good = refl

pub scan-pass : (k : ℕ) (good : ℕ → Bool) (i : ℕ) {b : Bool} → each k i good ≡ fine → b ≡ good i → b ≡ true → each k (i + 1) good ≡ fine
unfolding each need ◌and_then◌
scan-pass k good i e q t = rw (add-one i, e, ← q, t)

first-bad : (k n : ℕ) (good : ℕ → Bool) (i : ℕ) → i < n → each k i good ≡ fine → good i ≡ false → each k n good ≡ refused k i
unfolding each need ◌and_then◌
first-bad k zero good i h e bad = absurd (omega arith)
first-bad k (suc n) good i h e bad = go (eqb i n) (same? i n) (λ l. first-bad k n good i l e bad)
  where
    go : (b : Bool) → Same i n b → (i < n → each k n good ≡ refused k i) → (each k n good and_then need k n (good n)) ≡ refused k i
    go true (same d) ih = rw (← d, e, bad)
    go false (other d) ih = rw (ih (omega arith))

pub scan-hit : (k : ℕ) (good : ℕ → Bool) (n i : ℕ) {b : Bool} → i < n → each k i good ≡ fine → b ≡ good i → b ≡ false → refused k i ≡ each k n good
scan-hit k good n i h e q t = sym (first-bad k n good i h e (sym q ∙ t))

pub scan-end : (k : ℕ) (good : ℕ → Bool) (n i : ℕ) → i ≤ n → n ≤ i → each k i good ≡ fine → fine ≡ each k n good
scan-end k good n i l m e = let q : i ≡ n = omega arith in sym (rw q at e)
