-- Laws by which the other crates reason about signed amounts in natural numbers.
use Prim.Native.Nat.{ℕ, zero, suc, ◌+◌, ◌-◌, ◌*◌, ◌/◌, ◌≤◌, ◌<◌}
use mathlib.Core.Path.{◌≡◌, refl, sym, ap, ◌∙◌}
use mathlib.Core.Bool.{Bool, true, false, not, cond, true≢false}
use native.Mathlib.Nat.{zero-mul, mul-zero, zero-div, not-suc-le-zero}
use native.Mathlib.Omega.{arith}
use lib.Dec.{ltb}
use borrow.Author.Tests.{ltb-true, ltb-false, le-ltb}
use lib.IntN.{ℤ, pos, negsuc, neg_ℤ, sub_ℕ, ◌+ℤ◌, ◌-ℤ◌, ◌*ℤ◌}
use lib.Signed.{quot_z}
use Rattle.signed.specs.Sign.{is_negative, is_zero, size, forward, backward, with_sign}

-- an amount is its sign and its size
pub size-with_sign : (b : Bool) (n : ℕ) → size (with_sign b n) ≡ n
size-with_sign false n = refl
size-with_sign true zero = refl
size-with_sign true (suc n) = refl

pub negative-with_sign : (b : Bool) (n : ℕ) → 0 < n → is_negative (with_sign b n) ≡ b
negative-with_sign false n h = refl
negative-with_sign true zero h = absurd (not-suc-le-zero h)
negative-with_sign true (suc n) h = refl

pub with_sign-zero : (b : Bool) → with_sign b 0 ≡ pos 0
with_sign-zero false = refl
with_sign-zero true = refl

pub with_sign-of : (z : ℤ) → with_sign (is_negative z) (size z) ≡ z
with_sign-of (pos n) = refl
with_sign-of (negsuc n) = refl

pub is_zero-size : (z : ℤ) → is_zero z ≡ true → size z ≡ 0
is_zero-size (pos zero) e = refl
is_zero-size (pos (suc n)) e = absurd (true≢false (sym e))
is_zero-size (negsuc n) e = absurd (true≢false (sym e))

-- what goes forward and back of an amount with a sign
pub forward-with_sign : (b : Bool) (n : ℕ) → forward (with_sign b n) ≡ cond b 0 n
forward-with_sign false n = refl
forward-with_sign true zero = refl
forward-with_sign true (suc n) = refl

pub backward-with_sign : (b : Bool) (n : ℕ) → backward (with_sign b n) ≡ cond b n 0
backward-with_sign false n = refl
backward-with_sign true zero = refl
backward-with_sign true (suc n) = refl

pub forward-is : (z : ℤ) → forward z ≡ cond (is_negative z) 0 (size z)
forward-is (pos n) = refl
forward-is (negsuc n) = refl

pub backward-is : (z : ℤ) → backward z ≡ cond (is_negative z) (size z) 0
backward-is (pos n) = refl
backward-is (negsuc n) = refl

pub forward-le : (z : ℤ) → forward z ≤ size z
forward-le (pos n) = omega arith
forward-le (negsuc n) = omega arith

pub backward-le : (z : ℤ) → backward z ≤ size z
backward-le (pos n) = omega arith
backward-le (negsuc n) = omega arith

pub forward-neg : (n : ℕ) → forward (neg_ℤ (pos n)) ≡ 0
forward-neg zero = refl
forward-neg (suc n) = refl

pub backward-neg : (n : ℕ) → backward (neg_ℤ (pos n)) ≡ n
backward-neg zero = refl
backward-neg (suc n) = refl

-- products with a natural number
pub scale : (z : ℤ) (k : ℕ) → z *ℤ pos k ≡ with_sign (is_negative z) (size z * k)
scale (pos n) k = refl
scale (negsuc n) k = refl

pub forward-scale : (z : ℤ) (k : ℕ) → forward (z *ℤ pos k) ≡ forward z * k
forward-scale (pos n) k = refl
forward-scale (negsuc n) k = forward-neg (suc n * k) ∙ sym (zero-mul k)

pub backward-scale : (z : ℤ) (k : ℕ) → backward (z *ℤ pos k) ≡ backward z * k
backward-scale (pos n) k = sym (zero-mul k)
backward-scale (negsuc n) k = backward-neg (suc n * k)

-- sizes of products, quotients, differences and sums
pub size-neg : (n : ℕ) → size (neg_ℤ (pos n)) ≡ n
size-neg zero = refl
size-neg (suc n) = refl

pub size-mul : (a b : ℤ) → size (a *ℤ b) ≡ size a * size b
size-mul (pos a) (pos b) = refl
size-mul (pos a) (negsuc b) = size-neg (a * suc b)
size-mul (negsuc a) (pos b) = size-neg (suc a * b)
size-mul (negsuc a) (negsuc b) = refl

pub size-quot : (a : ℤ) (b : ℕ) → size (quot_z a (pos b)) ≡ size a / b
size-quot (pos a) b = refl
size-quot (negsuc a) b = size-neg (suc a / b)

difference : (a b : ℕ) → forward (sub_ℕ a b) + b ≡ backward (sub_ℕ a b) + a
difference a b = go (ltb a b) refl
  where
    go : (t : Bool) → ltb a b ≡ t → forward (cond t (negsuc (b - suc a)) (pos (a - b))) + b ≡ backward (cond t (negsuc (b - suc a)) (pos (a - b))) + a
    go true e = omega (arith, ltb-true a b e)
    go false e = omega (arith, ltb-false a b e)

-- the sum of two amounts moves what the two move
pub moves : (a b : ℤ) → forward (a +ℤ b) + backward a + backward b ≡ backward (a +ℤ b) + forward a + forward b
moves (pos a) (pos b) = omega arith
moves (pos a) (negsuc b) = omega (arith, difference a (suc b))
moves (negsuc a) (pos b) = omega (arith, difference b (suc a))
moves (negsuc a) (negsuc b) = omega arith

pub size_is : (z : ℤ) → size z ≡ forward z + backward z
size_is (pos n) = omega arith
size_is (negsuc n) = omega arith

sub-size : (a b : ℕ) → size (sub_ℕ a b) ≤ a + b
sub-size a b = go (ltb a b) refl
  where
    go : (t : Bool) → ltb a b ≡ t → size (cond t (negsuc (b - suc a)) (pos (a - b))) ≤ a + b
    go true e = omega (arith, ltb-true a b e)
    go false e = omega arith

pub size-add : (a b : ℤ) → size (a +ℤ b) ≤ size a + size b
size-add (pos a) (pos b) = omega arith
size-add (pos a) (negsuc b) = sub-size a (suc b)
size-add (negsuc a) (pos b) = omega (arith, sub-size b (suc a))
size-add (negsuc a) (negsuc b) = omega arith

sub_within : (a b B : ℕ) → a ≤ B → b ≤ B → size (sub_ℕ a b) ≤ B
sub_within a b B h k = go (ltb a b) refl
  where
    go : (t : Bool) → ltb a b ≡ t → size (cond t (negsuc (b - suc a)) (pos (a - b))) ≤ B
    go true e = omega (arith, ltb-true a b e)
    go false e = omega arith

pub size-diff : (a b B : ℕ) → a ≤ B → b ≤ B → size (pos a -ℤ pos b) ≤ B
size-diff a zero B h k = omega arith
size-diff a (suc b) B h k = sub_within a (suc b) B h k

sub_self : (a : ℕ) → sub_ℕ a a ≡ pos 0
sub_self a = go (ltb a a) refl
  where
    go : (t : Bool) → ltb a a ≡ t → cond t (negsuc (a - suc a)) (pos (a - a)) ≡ pos 0
    go true e = absurd (omega (arith, ltb-true a a e))
    go false e = ap pos (omega arith)

pub diff-self : (a : ℕ) → pos a -ℤ pos a ≡ pos 0
diff-self zero = refl
diff-self (suc a) = sub_self (suc a)

pub size-zero : (z : ℤ) → size z ≡ 0 → z ≡ pos 0
size-zero (pos n) e = ap pos e
size-zero (negsuc n) e = absurd (omega arith)

-- products, quotients and differences by sign and size
pub mul-with_sign : (p q : Bool) (m n : ℕ) → with_sign p m *ℤ with_sign q n ≡ with_sign (cond p (not q) q) (m * n)
mul-with_sign false false m n = refl
mul-with_sign false true m zero = ap pos (mul-zero m) ∙ sym (ap (λ (k : ℕ). neg_ℤ (pos k)) (mul-zero m))
mul-with_sign false true m (suc n) = refl
mul-with_sign true false zero n = ap pos (zero-mul n) ∙ sym (ap (λ (k : ℕ). neg_ℤ (pos k)) (zero-mul n))
mul-with_sign true false (suc m) n = refl
mul-with_sign true true zero zero = refl
mul-with_sign true true zero (suc n) = ap (λ (k : ℕ). neg_ℤ (pos k)) (zero-mul (suc n)) ∙ sym (ap pos (zero-mul (suc n)))
mul-with_sign true true (suc m) zero = ap (λ (k : ℕ). neg_ℤ (pos k)) (mul-zero (suc m)) ∙ sym (ap pos (mul-zero (suc m)))
mul-with_sign true true (suc m) (suc n) = refl

pub quot-with_sign : (p : Bool) (m n : ℕ) → quot_z (with_sign p m) (pos n) ≡ with_sign p (m / n)
quot-with_sign false m n = refl
quot-with_sign true zero n = ap pos (zero-div n) ∙ sym (ap (λ (k : ℕ). neg_ℤ (pos k)) (zero-div n))
quot-with_sign true (suc m) n = refl

pub quot_is : (z : ℤ) (n : ℕ) → quot_z z (pos n) ≡ with_sign (is_negative z) (size z / n)
quot_is (pos m) n = refl
quot_is (negsuc m) n = refl

sub-with_sign : (a b : ℕ) → sub_ℕ a b ≡ with_sign (ltb a b) ((a - b) + (b - a))
sub-with_sign a b = go (ltb a b) refl
  where
    go : (t : Bool) → ltb a b ≡ t → cond t (negsuc (b - suc a)) (pos (a - b)) ≡ with_sign t ((a - b) + (b - a))
    go true e = let q : (a - b) + (b - a) ≡ suc (b - suc a) = omega (arith, ltb-true a b e) in rw q
    go false e = ap pos (omega (arith, ltb-false a b e))

pub diff-with_sign : (a b : ℕ) → pos a -ℤ pos b ≡ with_sign (ltb a b) ((a - b) + (b - a))
diff-with_sign a zero = rw (le-ltb a 0 (omega arith)) (ap pos (omega arith))
diff-with_sign a (suc b) = sub-with_sign a (suc b)
