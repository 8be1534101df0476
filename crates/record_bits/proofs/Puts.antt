-- Laws of a field written into a list of bytes, over the place and the width.
use mathlib.Core.Path.{◌≡◌, refl, sym, ap, ◌∙◌}
use mathlib.Core.List.{List}
use Prim.Native.Nat.{ℕ, zero, suc, ◌+◌, ◌-◌, ◌*◌, ◌/◌, ◌%◌, ◌^◌, ◌≤◌, ◌<◌}
use native.Mathlib.Nat.{mul_assoc, add-mul, mod-lt, div-eq_of_lt, div-one}
use native.Mathlib.Decide.{ℕ_discrete}
use native.Mathlib.Omega.{arith}
use lib.ListN.{length, get_or, set, length-set}
use lib.Seq.{get_or-set_same, get_or-set_other, ext_get_or}
use lib.Arith.{digits_lt}
use lib.Pow.{pow_pos, pow-add, split, high, low, shr-shr, field, mod-mod-pow, shr_lt}
use Rattle.record_bits.specs.Field.{bit_at, bits_at}
use Rattle.record_bits.specs.Put.{Put}
use Rattle.record_bits.specs.Mixed.{mixed}
use Rattle.record_bits.proofs.Fields.{bits-split, bits-byte}

-- fields with the same bits are the same
pub bits-same : (a b : List ℕ) (at w : ℕ) → ((i : ℕ) → at ≤ i → i < at + w → bit_at a i ≡ bit_at b i) → bits_at a at w ≡ bits_at b at w
unfolding bits_at
bits-same a b at zero h = refl
bits-same a b at (suc w) h = rw (bits-same a b at w (λ i l m. h i l (omega arith)), h (at + w) (omega arith) (omega arith))

-- no bits yet
pub put-none : (bs : List ℕ) (at : ℕ) → Put bs at 0 0 bs
unfolding bits_at
put-none bs at = record { same_length = refl; inside = refl; below = λ i l. refl; above = λ i l. refl }

-- one field after another is one field
pub put-more : (bs mid out : List ℕ) (at k n v x : ℕ) → Put bs at k v mid → Put mid (at + k) n x out → Put bs at (k + n) (v * 2 ^ n + x) out
put-more bs mid out at k n v x p q =
    let e : bits_at out at k ≡ v = bits-same out mid at k (λ i l m. q.below i m) ∙ p.inside in
    record {
      same_length = q.same_length ∙ p.same_length;
      inside = bits-split out at k n ∙ rw (e, q.inside);
      below = λ i l. q.below i (omega arith) ∙ p.below i l;
      above = λ i l. q.above i (omega arith) ∙ p.above i (omega arith);
    }

-- a bit below e goes by the remainder
low_bit : (n e t : ℕ) → t < e → n / 2 ^ t % 2 ≡ n % 2 ^ e / 2 ^ t % 2
low_bit n e t l =
    let d : ℕ = e - t - 1 in
    let q : d + 1 + t ≡ e = omega arith in
    sym (mod-mod-pow (n / 2 ^ t) d 1) ∙ ap (λ (m : ℕ). m % 2) (sym (field n (d + 1) t) ∙ ap (λ (j : ℕ). n % 2 ^ j / 2 ^ t) q)

module _ (x e k v : ℕ) (small : v < 2 ^ k) where
  low-lt : v * 2 ^ e + x % 2 ^ e < 2 ^ (k + e)
  low-lt = rw (pow-add 2 k e) (digits_lt small (mod-lt x (pow_pos e)))

  pub mixed-lt : x < 256 → k + e ≤ 8 → mixed x e k v < 256
  unfolding mixed
  mixed-lt xl l =
      let j : ℕ = 8 - (k + e) in
      let q : j + (k + e) ≡ 8 = omega arith in
      let a : x < 2 ^ (j + (k + e)) = rw q xl in
      let b : x / 2 ^ (k + e) * 2 ^ (k + e) + (v * 2 ^ e + x % 2 ^ e) < 2 ^ j * 2 ^ (k + e) = digits_lt (shr_lt j (k + e) a) low-lt in
      let c : 2 ^ j * 2 ^ (k + e) ≡ 256 = sym (pow-add 2 j (k + e)) ∙ ap (λ (n : ℕ). 2 ^ n) q in
      rw c at b

  regroup : mixed x e k v ≡ (x / 2 ^ (k + e) * 2 ^ k + v) * 2 ^ e + x % 2 ^ e
  unfolding mixed
  regroup =
      let a : x / 2 ^ (k + e) * 2 ^ (k + e) ≡ x / 2 ^ (k + e) * 2 ^ k * 2 ^ e = ap (λ (n : ℕ). x / 2 ^ (k + e) * n) (pow-add 2 k e) ∙ sym (mul_assoc _ _ _) in
      omega (arith, add-mul (x / 2 ^ (k + e) * 2 ^ k) v (2 ^ e))

  pub mixed-in : mixed x e k v / 2 ^ e % 2 ^ k ≡ v
  mixed-in = ap (λ (n : ℕ). n / 2 ^ e % 2 ^ k) regroup ∙ ap (λ (n : ℕ). n % 2 ^ k) (high _ e (mod-lt x (pow_pos e))) ∙ low _ k small

  pub mixed-high : (t : ℕ) → k + e ≤ t → mixed x e k v / 2 ^ t ≡ x / 2 ^ t
  unfolding mixed
  mixed-high t l =
      let d : ℕ = t - (k + e) in
      let q : (k + e) + d ≡ t = omega arith in
      ap (λ (j : ℕ). mixed x e k v / 2 ^ j) (sym q) ∙ sym (shr-shr (mixed x e k v) (k + e) d)
      ∙ ap (λ (n : ℕ). n / 2 ^ d) (high (x / 2 ^ (k + e)) (k + e) low-lt)
      ∙ shr-shr x (k + e) d ∙ ap (λ (j : ℕ). x / 2 ^ j) q

  pub mixed-low : (t : ℕ) → t < e → mixed x e k v / 2 ^ t % 2 ≡ x / 2 ^ t % 2
  mixed-low t l =
      low_bit (mixed x e k v) e t l
      ∙ ap (λ (n : ℕ). n / 2 ^ t % 2) (ap (λ (n : ℕ). n % 2 ^ e) regroup ∙ low _ e (mod-lt x (pow_pos e)))
      ∙ sym (low_bit x e t l)

-- a whole byte is what is put into it
pub mixed-whole : (x e k v : ℕ) → x < 256 → k ≡ 8 → k + e ≤ 8 → mixed x e k v ≡ v
unfolding mixed
mixed-whole x e k v l h m = let z : e ≡ 0 = omega arith in rw (h, z) (omega arith)

-- a field within one byte, written
pub put_byte : (bs : List ℕ) (p k v : ℕ) → p / 8 < length bs → p % 8 + k ≤ 8 → v < 2 ^ k
    → Put bs p k v (set bs (p / 8) (mixed (get_or bs (p / 8) 0) (8 - p % 8 - k) k v))
unfolding bit_at
put_byte bs p k v l h small = record {
  same_length = length-set bs (p / 8) y;
  inside = in-it;
  below = λ i m. under i m (ℕ_discrete (i / 8) (p / 8));
  above = λ i m. over i m (ℕ_discrete (i / 8) (p / 8));
}
  where
    e : ℕ
    e = 8 - p % 8 - k

    x : ℕ
    x = get_or bs (p / 8) 0

    y : ℕ
    y = mixed x e k v

    here : get_or (set bs (p / 8) y) (p / 8) 0 ≡ y
    here = get_or-set_same bs (p / 8) y 0 l

    in-it : bits_at (set bs (p / 8) y) p k ≡ v
    in-it = bits-byte (set bs (p / 8) y) p k h ∙ ap (λ (n : ℕ). n / 2 ^ e % 2 ^ k) here ∙ mixed-in x e k v small

    -- a bit of the byte itself, and of another byte
    mine : (i : ℕ) → i / 8 ≡ p / 8 → y / 2 ^ (7 - i % 8) % 2 ≡ x / 2 ^ (7 - i % 8) % 2 → get_or (set bs (p / 8) y) (i / 8) 0 / 2 ^ (7 - i % 8) % 2
        ≡ get_or bs (i / 8) 0 / 2 ^ (7 - i % 8) % 2
    mine i q r = rw (q, here) r

    other : (i : ℕ) → (i / 8 ≡ p / 8 → ⊥) → get_or (set bs (p / 8) y) (i / 8) 0 / 2 ^ (7 - i % 8) % 2 ≡ get_or bs (i / 8) 0 / 2 ^ (7 - i % 8) % 2
    other i n = rw (get_or-set_other bs (p / 8) (i / 8) y 0 n)

    under : (i : ℕ) → i < p → Dec (i / 8 ≡ p / 8) → get_or (set bs (p / 8) y) (i / 8) 0 / 2 ^ (7 - i % 8) % 2 ≡ get_or bs (i / 8) 0 / 2 ^ (7 - i % 8) % 2
    under i m (yes q) = mine i q (ap (λ (n : ℕ). n % 2) (mixed-high x e k v small (7 - i % 8) (omega arith)))
    under i m (no n) = other i n

    over : (i : ℕ) → p + k ≤ i → Dec (i / 8 ≡ p / 8) → get_or (set bs (p / 8) y) (i / 8) 0 / 2 ^ (7 - i % 8) % 2 ≡ get_or bs (i / 8) 0 / 2 ^ (7 - i % 8) % 2
    over i m (yes q) = mine i q (mixed-low x e k v small (7 - i % 8) (omega arith))
    over i m (no n) = other i n

-- a writer's first state, its turn and its end: k of the width's bits are written, from the highest
pub put-start : (bs : List ℕ) (at w v : ℕ) → v < 2 ^ w → Put bs at 0 (v / 2 ^ (w - 0)) bs
put-start bs at w v l =
    let e : w - 0 ≡ w = omega arith in
    let z : v / 2 ^ (w - 0) ≡ 0 = rw e (div-eq_of_lt l) in
    rw z (put-none bs at)

pub put-turn : (bs mid out : List ℕ) (at w k n v : ℕ) {q : ℕ} → q ≡ 2 ^ n → k + n ≤ w → Put bs at k (v / 2 ^ (w - k)) mid
    → Put mid (at + k) n (v / 2 ^ (w - k - n) % q) out
    → Put bs at (k + n) (v / 2 ^ (w - (k + n))) out
put-turn bs mid out at w k n v {q} f l p r =
    let j : ℕ = w - k - n in
    let e₁ : w - k ≡ j + n = omega arith in
    let e₂ : w - (k + n) ≡ j = omega arith in
    let a : v / 2 ^ (w - k) * 2 ^ n + v / 2 ^ (w - k - n) % q ≡ v / 2 ^ (w - (k + n)) =
    ap (λ (i : ℕ). v / 2 ^ i * 2 ^ n + v / 2 ^ j % q) e₁ ∙ ap (λ (i : ℕ). i * 2 ^ n + v / 2 ^ j % q) (sym (shr-shr v j n))
    ∙ ap (λ (i : ℕ). v / 2 ^ j / 2 ^ n * 2 ^ n + v / 2 ^ j % i) f
    ∙ split (v / 2 ^ j) n ∙ ap (λ (i : ℕ). v / 2 ^ i) (sym e₂) in
    rw a at (put-more bs mid out at k n _ _ p r)

pub put-end : (bs out : List ℕ) (at w k v : ℕ) → k ≤ w → w ≤ k → Put bs at k (v / 2 ^ (w - k)) out → Put bs at w v out
put-end bs out at w k v l m p =
    let e : k ≡ w = omega arith in
    let z : w - k ≡ 0 = omega arith in
    let a : v / 2 ^ (w - k) ≡ v = ap (λ (i : ℕ). v / 2 ^ i) z ∙ div-one v in
    rw (a, e) at p

-- a byte is its eight bits, and lists of bytes with the same bits are the same
pub byte-bits : (bs : List ℕ) (j : ℕ) → get_or bs j 0 < 256 → bits_at bs (j * 8) 8 ≡ get_or bs j 0
byte-bits bs j l =
    let e₁ : j * 8 / 8 ≡ j = omega arith in
    let e₂ : j * 8 % 8 ≡ 0 = omega arith in
    let h : j * 8 % 8 + 8 ≤ 8 = omega arith in
    bits-byte bs (j * 8) 8 h ∙ rw (e₁, e₂) (omega arith)

pub same_bits : (a b : List ℕ) → length a ≡ length b → ((j : ℕ) → get_or a j 0 < 256) → ((j : ℕ) → get_or b j 0 < 256) → ((i : ℕ) → bit_at a i ≡ bit_at b i) → a ≡ b
same_bits a b e p q h = ext_get_or 0 a b e (λ j l. sym (byte-bits a j (p j)) ∙ bits-same a b (j * 8) 8 (λ i m n. h i) ∙ byte-bits b j (q j))
