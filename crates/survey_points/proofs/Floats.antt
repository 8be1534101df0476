-- What the comparisons of the code come to, by the fractions that finite floats are.
use Prim.Native.Nat.{ℕ, zero, suc, ◌+◌, ◌*◌, ◌^◌, ◌≤◌, ◌<◌}
use mathlib.Core.Path.{◌≡◌, refl, sym, ap, ◌∙◌}
use mathlib.Core.Bool.{Bool, true, false, ◌&&◌, ◌||◌, beq, true≢false}
use mathlib.Core.Logic.{⊎_elim}
use native.Mathlib.Nat.{zero-lt-suc, mul-one, mul-pos, eq-or-lt_of_le}
use native.Mathlib.Omega.{arith}
use borrow.Author.Tests.{lt-ltb, le-ltb, ltb-true, eq-eqb, ne_eqb, eqb-true}
use lib.Dec.{T, eqb, leb, ltb, eqb→eq}
use lib.IntN.{ℤ, pos, negsuc}
use lib.Pow.{pow_pos}
use lib.Ieee.{Float, nan, inf, fin, binary64, up, down, fits as held, neg, lt, eq, le}
use lib.Ieee.Fits.{up_pos, down_pos}
use Rattle.lists.proofs.Tests.{Fits, fits, exceeds, fits?}
use Rattle.survey_points.specs.Points.{none, size_of, allowed}

-- the greatest coordinate, as the code has it
abbrev pub million : Float
million = fin false 15625 (pos 6)

-- two tests of which each says what the other says
pub leb-same : (a b c d : ℕ) → (a ≤ b → c ≤ d) → (c ≤ d → a ≤ b) → leb a b ≡ leb c d
leb-same a b c d f g = go (leb a b) (fits? a b) (leb c d) (fits? c d)
  where
    go : (s : Bool) → Fits a b s → (t : Bool) → Fits c d t → s ≡ t
    go true (fits h) true (fits k) = refl
    go true (fits h) false (exceeds k) = absurd (omega (arith, f h))
    go false (exceeds h) true (fits k) = absurd (omega (arith, g k))
    go false (exceeds h) false (exceeds k) = refl

-- below or equal is at most
pub at_most : (a b : ℕ) → (ltb a b || (eqb a b && true)) ≡ leb a b
at_most a b = go (leb a b) (fits? a b)
  where
    go : (t : Bool) → Fits a b t → (ltb a b || (eqb a b && true)) ≡ t
    go true (fits h) = ⊎_elim (λ e. rw (le-ltb a b (omega arith), eq-eqb a b e)) (λ l. rw (lt-ltb a b l)) (eq-or-lt_of_le h)
    go false (exceeds l) = rw (le-ltb a b (omega arith), ne_eqb a b (λ e. omega arith))

at_least : (a b : ℕ) → (ltb b a || (eqb a b && true)) ≡ leb b a
at_least a b = go (leb b a) (fits? b a)
  where
    go : (t : Bool) → Fits b a t → (ltb b a || (eqb a b && true)) ≡ t
    go true (fits h) = ⊎_elim (λ e. rw (le-ltb b a (omega arith), eq-eqb a b (sym e))) (λ l. rw (lt-ltb b a l)) (eq-or-lt_of_le h)
    go false (exceeds l) = rw (le-ltb b a (omega arith), ne_eqb a b (λ e. omega arith))

pub and-false : (t : Bool) → (t && false) ≡ false
and-false true = refl
and-false false = refl

num-some : (m : ℕ) (e : ℤ) → 0 < suc m * up e
num-some m e = mul-pos (zero-lt-suc m) (up_pos e)

-- ---- the size of a number that its format holds

-- a zero is written in one way
zero_held : (s : Bool) (e : ℤ) → T (held binary64 (fin s 0 e)) → fin false 0 e ≡ none
unfolding held
zero_held s (pos zero) h = refl
zero_held s (pos (suc k)) h = absurd (omega (arith, pow_pos k, eqb→eq (2 ^ suc k * 1) 1 h))
zero_held s (negsuc k) h = absurd (omega (arith, pow_pos k, eqb→eq (1 * 2 ^ suc k) 1 h))

pub size_below : (v : Float) → lt v none ≡ true → neg v ≡ size_of v
unfolding lt neg size_of
size_below nan h = refl
size_below (inf true) h = refl
size_below (inf false) h = absurd (true≢false (sym h))
size_below (fin true m e) h = refl
size_below (fin false m e) h = absurd (omega (arith, ltb-true (m * up e * 1) (0 * 1 * down e) h))

pub size_none : (v : Float) → T (held binary64 v) → eq v none ≡ true → none ≡ size_of v
unfolding eq size_of
size_none nan f h = absurd (true≢false (sym h))
size_none (inf s) f h = absurd (true≢false (sym h))
size_none (fin s zero e) f h = sym (zero_held s e f)
size_none (fin s (suc m) e) f h = absurd (go (eqb (suc m * up e * 1) (0 * 1 * down e)) (beq s false || eqb (suc m * up e * 1) 0) refl h)
  where
    go : (t u : Bool) → eqb (suc m * up e * 1) (0 * 1 * down e) ≡ t → (t && u) ≡ true → ⊥
    go true u d h = omega (arith, eqb-true (suc m * up e * 1) (0 * 1 * down e) d, num-some m e)
    go false u d h = true≢false (sym h)

pub size_above : (v : Float) → lt v none ≡ false → eq v none ≡ false → v ≡ size_of v
unfolding lt eq size_of
size_above nan h k = refl
size_above (inf true) h k = absurd (true≢false h)
size_above (inf false) h k = refl
size_above (fin false m e) h k = refl
size_above (fin true zero e) h k =
    let z : true ≡ false = rw (eq-eqb (0 * up e * 1) (0 * 1 * down e) (omega arith), eq-eqb (0 * up e * 1) 0 (omega arith)) at k in
    absurd (true≢false z)
size_above (fin true (suc m) e) h k =
    absurd (true≢false (sym (lt-ltb 0 (suc m * up e * 1 + 0 * 1 * down e) (omega (arith, num-some m e))) ∙ h))

-- ---- a coordinate within 1,000,000

up-to-million : (m : ℕ) (e : ℤ) → le (fin false m e) million ≡ allowed (fin false m e)
unfolding le lt eq allowed
up-to-million m e = at_most (m * up e * 1) (1000000 * down e) ∙ ap (λ (x : ℕ). leb x (1000000 * down e)) (mul-one (m * up e))

pub within : (v : Float) → le v million ≡ true → le (neg million) v ≡ allowed v
unfolding le lt eq neg allowed
within nan h = absurd (true≢false (sym h))
within (inf true) h = refl
within (inf false) h = absurd (true≢false (sym h))
within (fin false m e) h =
    rw (lt-ltb 0 (1000000 * down e + m * up e * 1) (omega (arith, down_pos e))) (sym h ∙ up-to-million m e)
within (fin true m e) h = at_least (1000000 * down e) (m * up e * 1) ∙ ap (λ (x : ℕ). leb x (1000000 * down e)) (mul-one (m * up e))

pub beyond : (v : Float) → le v million ≡ false → false ≡ allowed v
unfolding le lt eq allowed
beyond nan h = refl
beyond (inf s) h = refl
beyond (fin false m e) h = sym h ∙ up-to-million m e
beyond (fin true m e) h =
    absurd (true≢false (sym (rw (lt-ltb 0 (m * up e * 1 + 1000000 * down e) (omega (arith, down_pos e))) at (sym h))))
