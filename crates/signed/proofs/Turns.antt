-- Signed amounts turned round: what a turn does to each part of an amount, to sums, products and quotients, and to what it moves.
use Prim.Native.Nat.{ℕ, zero, suc, ◌+◌, ◌*◌, ◌/◌}
use mathlib.Core.Path.{◌≡◌, refl, sym, ap, ◌∙◌}
use mathlib.Core.Bool.{Bool, true, false, cond}
use native.Mathlib.Nat.{zero-mul, zero-div}
use native.Mathlib.Omega.{arith}
use lib.IntN.{ℤ, pos, negsuc, neg_ℤ, ◌+ℤ◌, ◌-ℤ◌, ◌*ℤ◌, neg_ℤ-neg_ℤ, neg_ℤ-+ℤ, +ℤ_comm, *ℤ_comm}
use lib.Signed.{quot_z}
use Rattle.signed.specs.Sign.{is_negative, is_zero, size, forward, backward, with_sign, turn}

pub forward-turned : (z : ℤ) → forward (neg_ℤ z) ≡ backward z
forward-turned (pos zero) = refl
forward-turned (pos (suc n)) = refl
forward-turned (negsuc n) = refl

pub backward-turned : (z : ℤ) → backward (neg_ℤ z) ≡ forward z
backward-turned (pos zero) = refl
backward-turned (pos (suc n)) = refl
backward-turned (negsuc n) = refl

pub size-turn : (t : Bool) (z : ℤ) → size (turn t z) ≡ size z
size-turn false z = refl
size-turn true (pos zero) = refl
size-turn true (pos (suc n)) = refl
size-turn true (negsuc n) = refl

pub turn-opposite : (t : Bool) (z : ℤ) → neg_ℤ (turn t z) ≡ turn t (neg_ℤ z)
turn-opposite false z = refl
turn-opposite true z = refl

pub is_zero-turn : (t : Bool) (z : ℤ) → is_zero (turn t z) ≡ is_zero z
is_zero-turn false z = refl
is_zero-turn true (pos zero) = refl
is_zero-turn true (pos (suc n)) = refl
is_zero-turn true (negsuc n) = refl

pub turn-zero : (t : Bool) → turn t (pos 0) ≡ pos 0
turn-zero false = refl
turn-zero true = refl

pub turn-add : (t : Bool) (a b : ℤ) → turn t a +ℤ turn t b ≡ turn t (a +ℤ b)
turn-add false a b = refl
turn-add true a b = sym (neg_ℤ-+ℤ a b)

neg-with_sign : (n : ℕ) → neg_ℤ (neg_ℤ (pos n)) ≡ pos n
neg-with_sign n = neg_ℤ-neg_ℤ (pos n)

neg-mul : (a b : ℤ) → neg_ℤ a *ℤ b ≡ neg_ℤ (a *ℤ b)
neg-mul (pos zero) (pos b) = rw (zero-mul b)
neg-mul (pos zero) (negsuc b) = rw (zero-mul (suc b))
neg-mul (pos (suc a)) (pos b) = refl
neg-mul (pos (suc a)) (negsuc b) = sym (neg-with_sign (suc a * suc b))
neg-mul (negsuc a) (pos b) = sym (neg-with_sign (suc a * b))
neg-mul (negsuc a) (negsuc b) = refl

pub turn-mul : (t : Bool) (a b : ℤ) → turn t a *ℤ b ≡ turn t (a *ℤ b)
turn-mul false a b = refl
turn-mul true a b = neg-mul a b

-- two factors turned, the second alone, and a difference turned
pub mul-turned : (a b : ℤ) → a *ℤ neg_ℤ b ≡ neg_ℤ (a *ℤ b)
mul-turned a b = *ℤ_comm a (neg_ℤ b) ∙ neg-mul b a ∙ ap neg_ℤ (*ℤ_comm b a)

pub both-turned : (a b : ℤ) → neg_ℤ a *ℤ neg_ℤ b ≡ a *ℤ b
both-turned a b = mul-turned (neg_ℤ a) b ∙ ap neg_ℤ (neg-mul a b) ∙ neg_ℤ-neg_ℤ (a *ℤ b)

pub difference-turned : (a b : ℤ) → b -ℤ a ≡ neg_ℤ (a -ℤ b)
difference-turned a b = sym (neg_ℤ-+ℤ a (neg_ℤ b) ∙ ap (λ (x : ℤ). neg_ℤ a +ℤ x) (neg_ℤ-neg_ℤ b) ∙ +ℤ_comm (neg_ℤ a) b)

neg-quot : (a : ℤ) (n : ℕ) → quot_z (neg_ℤ a) (pos n) ≡ neg_ℤ (quot_z a (pos n))
neg-quot (pos zero) n = rw (zero-div n)
neg-quot (pos (suc a)) n = refl
neg-quot (negsuc a) n = sym (neg-with_sign (suc a / n))

pub turn-quot : (t : Bool) (a : ℤ) (n : ℕ) → quot_z (turn t a) (pos n) ≡ turn t (quot_z a (pos n))
turn-quot false a n = refl
turn-quot true a n = neg-quot a n

-- what passes forward at one end and back at the other is the same where ends and amount are turned
pub turn-passes : (t s r : Bool) (z : ℤ) → cond (cond t r s) (forward (turn t z)) 0 + cond (cond t s r) (backward (turn t z)) 0
    ≡ cond s (forward z) 0 + cond r (backward z) 0
turn-passes false s r z = refl
turn-passes true s r z = rw (forward-turned z, backward-turned z) (omega arith)

-- an amount carries what is at the end that it comes from, n at the first and b at the second
pub turn-carries : (t : Bool) (z : ℤ) (n b : ℕ) → turn t z *ℤ pos (cond (is_negative (turn t z)) (cond t n b) (cond t b n))
    ≡ turn t (z *ℤ pos (cond (is_negative z) b n))
turn-carries false z n b = refl
turn-carries true (pos zero) n b = rw (zero-mul b, zero-mul n)
turn-carries true (pos (suc m)) n b = refl
turn-carries true (negsuc m) n b = sym (neg-with_sign (suc m * b))

-- of an amount that is not 0
pub turn-negative : (t : Bool) (z : ℤ) {A : Type 0} (a b : A) → is_zero z ≡ false → cond (is_negative (turn t z)) (cond t b a) (cond t a b)
    ≡ cond (is_negative z) a b
turn-negative false z a b e = refl
turn-negative true (pos zero) a b e = let y : ◌≡◌ {A = ℕ} 0 1 = cc in absurd (omega arith)
turn-negative true (pos (suc n)) a b e = refl
turn-negative true (negsuc n) a b e = refl

pub turn-with_sign : (t : Bool) (z : ℤ) (w : ℕ) → is_zero z ≡ false → with_sign (is_negative (turn t z)) w ≡ turn t (with_sign (is_negative z) w)
turn-with_sign false z w e = refl
turn-with_sign true (pos zero) w e = let y : ◌≡◌ {A = ℕ} 0 1 = cc in absurd (omega arith)
turn-with_sign true (pos (suc n)) w e = refl
turn-with_sign true (negsuc n) w e = sym (neg-with_sign w)
