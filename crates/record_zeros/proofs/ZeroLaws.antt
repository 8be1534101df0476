-- Cause 12: only the bits that can break the rule need be looked at.
use Prim.Native.Nat.{ℕ, suc, ◌+◌, ◌-◌, ◌*◌, ◌/◌, ◌%◌, ◌≤◌, ◌<◌}
use mathlib.Core.Path.{◌≡◌, refl, sym, ◌∙◌}
use mathlib.Core.Logic.{◌⊎◌, inl, inr}
use mathlib.Core.Bool.{Bool, true, false, not, ◌&&◌, ◌||◌, and-false, true≢false}
use mathlib.Core.List.{List}
use native.Mathlib.Nat.{mul-le-mul_right, mul-mod_left, suc-mul, div-add-mod'}
use native.Mathlib.Omega.{arith}
use native.Mathlib.Decide.{dec_lt}
use borrow.Author.Tests.{lt-ltb, le-ltb, le-leb, lt-leb}
use lib.Dec.{eqb, leb, ltb}
use Rattle.lists.proofs.Tests.{Same, same, other, same?, Fits, fits, fits?}
use Rattle.model.specs.Causes.{refused, fine, each}
use Rattle.model.proofs.Verdicts.{fine-each, scan-hit}
use Rattle.record_bits.specs.Field.{bit_at, bits_at}
use Rattle.record_bits.proofs.Fields.{bit-lt, one_bit, zero_bits}
use Rattle.record_bits.specs.Layout.{Field, width_of, packed}
use Rattle.record_bits.proofs.Layouts.{packed-pad}
use Rattle.record_layouts.specs.Layouts.{sign_bits, step_head_bits, step_zero_bits}
use Rattle.record_zeros.specs.Zeros.{zero_bit_good, minus_zero}
use Rattle.record_zeros.specs.Scans.{FirstSet, FirstMinus}

not-one : (bs : List ℕ) (i : ℕ) → (bit_at bs i ≡ 1 → ⊥) → bit_at bs i ≡ 0
not-one bs i n = go (same? (bit_at bs i) 1)
  where
    go : {b : Bool} → Same (bit_at bs i) 1 b → bit_at bs i ≡ 0
    go (same e) = absurd (n e)
    go (other d) = omega (arith, bit-lt bs i)

-- a scan's turn: one clear bit more
pub clear-more : (bs : List ℕ) (from i : ℕ) {x : ℕ} → ((k : ℕ) → from ≤ k → k < i → bit_at bs k ≡ 0) → x ≡ bits_at bs i 1 → (x ≡ 1 → ⊥) → (k : ℕ) → from ≤ k
    → k < i + 1 → bit_at bs k ≡ 0
clear-more bs from i {x} before e n k l m = go (same? k i)
  where
    go : {b : Bool} → Same k i b → bit_at bs k ≡ 0
    go (same q) = rw q (not-one bs i (λ d. n (e ∙ one_bit bs i ∙ d)))
    go (other d) = before k l (omega arith)

-- a rule on the bits of a record: those of its head but the last z, then z zero bits up to h, the fields up to e, and padding
pub record Ruled (bs : List ℕ) (z h e : ℕ) (good : ℕ → Bool) : Type 0 where
  pub lead : (i : ℕ) → i < h - z → good i ≡ true
  pub head_clear : (i : ℕ) → i < h → bit_at bs i ≡ 0 → good i ≡ true
  pub head_set : (i : ℕ) → h - z ≤ i → i < h → bit_at bs i ≡ 1 → good i ≡ false
  pub tail_clear : (i : ℕ) → e ≤ i → bit_at bs i ≡ 0 → good i ≡ true
  pub tail_set : (i : ℕ) → e ≤ i → bit_at bs i ≡ 1 → good i ≡ false

module _ {bs : List ℕ} {z h e : ℕ} {good : ℕ → Bool} (rule : Ruled bs z h e good) where
  head-good : {a : ℕ} → FirstSet bs (h - z) h a → (i : ℕ) → i < a → good i ≡ true
  head-good s i l = go (dec_lt i (h - z))
    where
      go : Dec (i < h - z) → good i ≡ true
      go (yes m) = rule.lead i m
      go (no f) = rule.head_clear i (omega (arith, s.end)) (s.clear i (omega arith) l)

  -- the first bad bit is one of the head
  pub head-hit : {a : ℕ} (n : ℕ) → h ≤ n → FirstSet bs (h - z) h a → a < h → refused 12 a ≡ each 12 n good
  head-hit {a} n m s l = scan-hit 12 good n a (omega arith) (fine-each 12 a good (head-good s)) refl (rule.head_set a s.start l (s.set l))

  -- or one of the fields
  pub middle-hit : {a i : ℕ} (n : ℕ) → FirstSet bs (h - z) h a → h ≤ a → i < n → ((j : ℕ) → h ≤ j → j < i → good j ≡ true) → good i ≡ false → refused 12 i
      ≡ each 12 n good
  middle-hit {a} {i} n s m l before bad = scan-hit 12 good n i l (fine-each 12 i good (λ j k. go j k (dec_lt j h))) refl bad
    where
      go : (j : ℕ) → j < i → Dec (j < h) → good j ≡ true
      go j k (yes q) = head-good s j (omega arith)
      go j k (no f) = before j (omega arith) k

  up_to : {a b n : ℕ} → FirstSet bs (h - z) h a → h ≤ a → ((j : ℕ) → h ≤ j → j < e → good j ≡ true) → FirstSet bs e n b → (i : ℕ) → i < b → good i ≡ true
  up_to {b = b} s m fields t i l = go (dec_lt i h) (dec_lt i e)
    where
      go : Dec (i < h) → Dec (i < e) → good i ≡ true
      go (yes q) d = head-good s i (omega arith)
      go (no f) (yes q) = fields i (omega arith) q
      go (no f) (no g) = rule.tail_clear i (omega arith) (t.clear i (omega arith) l)

  -- or one of the padding
  pub tail-hit : {a b : ℕ} (n : ℕ) → FirstSet bs (h - z) h a → h ≤ a → ((j : ℕ) → h ≤ j → j < e → good j ≡ true) → FirstSet bs e n b → b < n → refused 12 b
      ≡ each 12 n good
  tail-hit {b = b} n s m fields t l = scan-hit 12 good n b l (fine-each 12 b good (up_to s m fields t)) refl (rule.tail_set b t.start (t.set l))

  -- or there is none
  pub no_hit : {a b : ℕ} (n : ℕ) → FirstSet bs (h - z) h a → h ≤ a → ((j : ℕ) → h ≤ j → j < e → good j ≡ true) → FirstSet bs e n b → n ≤ b → fine
      ≡ each 12 n good
  no_hit n s m fields t l = sym (fine-each 12 n good (λ i k. up_to s m fields t i (omega arith)))

-- the rule of zero bits
in_head : (h z i e : ℕ) → ((leb (h - z) i && ltb i h) || leb e i) ≡ false → (b : Bool) → not (b && ((leb (h - z) i && ltb i h) || leb e i)) ≡ true
in_head h z i e q true = rw q
in_head h z i e q false = refl

module _ (bs : List ℕ) (z h e : ℕ) where
  pub bit-clear : (i : ℕ) → bit_at bs i ≡ 0 → zero_bit_good bs z h e i ≡ true
  unfolding zero_bit_good
  bit-clear i q = rw q

  pub bit-used : (i : ℕ) → (i < h - z) ⊎ (h ≤ i) → i < e → zero_bit_good bs z h e i ≡ true
  unfolding zero_bit_good
  bit-used i d m = in_head h z i e (none d) (eqb (bit_at bs i) 1)
    where
      none : (i < h - z) ⊎ (h ≤ i) → ((leb (h - z) i && ltb i h) || leb e i) ≡ false
      none (inl l) = rw (lt-leb (h - z) i l, lt-leb e i m)
      none (inr l) = rw (le-ltb i h l, lt-leb e i m, and-false (leb (h - z) i))

  pub bit-in-head : (i : ℕ) → h - z ≤ i → i < h → bit_at bs i ≡ 1 → zero_bit_good bs z h e i ≡ false
  unfolding zero_bit_good
  bit-in-head i l m q = rw (q, le-leb (h - z) i l, lt-ltb i h m)

  pub bit-in-tail : (i : ℕ) → e ≤ i → bit_at bs i ≡ 1 → zero_bit_good bs z h e i ≡ false
  unfolding zero_bit_good
  bit-in-tail i l q = rw (q, le-leb e i l) (all (leb (h - z) i && ltb i h))
    where
      all : (b : Bool) → not (true && (b || true)) ≡ false
      all true = refl
      all false = refl

  -- and back: a zero bit that is good is clear
  pub good-clear : (i : ℕ) → zero_bit_good bs z h e i ≡ true → ((h - z ≤ i) × (i < h)) ⊎ (e ≤ i) → bit_at bs i ≡ 0
  good-clear i g (inl p) = not-one bs i (λ q. true≢false (sym g ∙ bit-in-head i p.0 p.1 q))
  good-clear i g (inr l) = not-one bs i (λ q. true≢false (sym g ∙ bit-in-tail i l q))

  pub zeros-ruled : h ≤ e → Ruled bs z h e (zero_bit_good bs z h e)
  zeros-ruled m = record {
    lead = λ i l. bit-used i (inl l) (omega arith);
    head_clear = λ i l. bit-clear i;
    head_set = bit-in-head;
    tail_clear = λ i l. bit-clear i;
    tail_set = bit-in-tail;
  }

-- zero bits in the head and padding after the fields
pub zeros-good : (fs : List Field) (z h e : ℕ) → z ≤ h → h ≤ e → width_of fs ≡ e → bits_at (packed fs) (h - z) z ≡ 0 → (i : ℕ) → zero_bit_good (packed fs) z h e i
    ≡ true
zeros-good fs z h e k m width zeros i = go (dec_lt i (h - z)) (dec_lt i h) (dec_lt i e)
  where
    go : Dec (i < h - z) → Dec (i < h) → Dec (i < e) → zero_bit_good (packed fs) z h e i ≡ true
    go (yes l) b c = bit-used (packed fs) z h e i (inl l) (omega arith)
    go (no a) (yes l) c = bit-clear (packed fs) z h e i (zero_bits (packed fs) (h - z) z zeros i (omega arith) (omega arith))
    go (no a) (no b) (yes l) = bit-used (packed fs) z h e i (inr (omega arith)) l
    go (no a) (no b) (no c) = bit-clear (packed fs) z h e i (packed-pad fs i (omega arith))

-- of two multiples the lesser has the lesser factor
lt_of_mul_lt_mul_right : (b f n : ℕ) → f * b < n * b → f < n
lt_of_mul_lt_mul_right b f n h = go (dec_lt f n)
  where
    go : Dec (f < n) → f < n
    go (yes l) = l
    go (no g) = let k : n ≤ f = omega arith in absurd (omega (arith, h, mul-le-mul_right b k))

-- a face among so many, of b bits each, stands within the record
pub face-room : (b f faces n : ℕ) → f < faces → step_head_bits + faces * b ≤ n → step_head_bits + f * b + b ≤ n
face-room b f faces n l h = omega (arith, mul-le-mul_right b l, suc-mul f b)

-- the minus of size 0
pub minus-at : (bs : List ℕ) (value faces f : ℕ) → f < faces
    → minus_zero bs value faces (step_head_bits + f * (sign_bits + value))
    ≡ (eqb (bits_at bs (step_head_bits + f * (sign_bits + value)) sign_bits) 1 && eqb (bits_at bs (step_head_bits + f * (sign_bits + value) + sign_bits) value) 0)
unfolding minus_zero
minus-at bs value faces f l =
    let i : ℕ = step_head_bits + f * (sign_bits + value) in
    let k : i - step_head_bits ≡ f * (sign_bits + value) = omega arith in
    let m : (i - step_head_bits) % (sign_bits + value) ≡ 0 = rw k (mul-mod_left f (sign_bits + value)) in
    let n : suc f * (sign_bits + value) ≤ faces * (sign_bits + value) = mul-le-mul_right (sign_bits + value) l in
    rw (le-leb step_head_bits i (omega arith), lt-ltb i (step_head_bits + faces * (sign_bits + value)) (omega (arith, n, suc-mul f (sign_bits + value))), m)

-- away from the signs of the faces passed there is none
module _ (bs : List ℕ) (value faces r : ℕ) (plain : (f : ℕ) → f < r → minus_zero bs value faces (step_head_bits + f * (sign_bits + value)) ≡ false) where
  pub no_minus : (i : ℕ) → (i < step_head_bits + r * (sign_bits + value)) ⊎ (step_head_bits + faces * (sign_bits + value) ≤ i) → minus_zero bs value faces i ≡ false
  unfolding minus_zero
  no_minus i where-it-is = go (leb step_head_bits i) (fits? step_head_bits i) (ltb i (step_head_bits + faces * (sign_bits + value))) (fits? _ _)
      (eqb ((i - step_head_bits) % (sign_bits + value)) 0) (same? _ _) where-it-is
    where
      go : (a : Bool) → Fits step_head_bits i a → (b : Bool) → Fits (suc i) (step_head_bits + faces * (sign_bits + value)) b → (d : Bool)
          → Same ((i - step_head_bits) % (sign_bits + value)) 0 d
          → (i < step_head_bits + r * (sign_bits + value)) ⊎ (step_head_bits + faces * (sign_bits + value) ≤ i)
          → (a && b && d && eqb (bits_at bs i sign_bits) 1 && eqb (bits_at bs (i + sign_bits) value) 0) ≡ false
      go false x b y d w q = refl
      go true x false y d w q = refl
      go true x true y false w q = refl
      go true (fits x) true (fits y) true (same w) (inr q) = absurd (omega arith)
      go true (fits x) true (fits y) true (same w) (inl q) =
          let f : ℕ = (i - step_head_bits) / (sign_bits + value) in
          let e : step_head_bits + f * (sign_bits + value) ≡ i = omega (arith, div-add-mod' (i - step_head_bits) (sign_bits + value)) in
          let below : (n : ℕ) → i < step_head_bits + n * (sign_bits + value) → f < n =
          λ n l. lt_of_mul_lt_mul_right (sign_bits + value) f n (omega (arith, e)) in
          let p = sym (minus-at bs value faces f (below faces (omega arith))) ∙ plain f (below r q) in
          rw e at p

-- the rule of a step
module _ (bs : List ℕ) (value faces e : ℕ) (l : step_head_bits + faces * (sign_bits + value) ≤ e) where
  past-signs : (i : ℕ) → (i < step_head_bits) ⊎ (step_head_bits + faces * (sign_bits + value) ≤ i) → minus_zero bs value faces i ≡ false
  past-signs i (inl m) = no_minus bs value faces 0 (λ f k. absurd (omega arith)) i (inl (omega arith))
  past-signs i (inr m) = no_minus bs value faces 0 (λ f k. absurd (omega arith)) i (inr m)

  both : (i : ℕ) → zero_bit_good bs step_zero_bits step_head_bits e i ≡ true → minus_zero bs value faces i ≡ false
      → (zero_bit_good bs step_zero_bits step_head_bits e i && not (minus_zero bs value faces i)) ≡ true
  both i p q = rw (p, q)

  zero : (i : ℕ) → zero_bit_good bs step_zero_bits step_head_bits e i ≡ false → (zero_bit_good bs step_zero_bits step_head_bits e i && not (minus_zero bs value faces i))
      ≡ false
  zero i p = rw p

  pub step-ruled : Ruled bs step_zero_bits step_head_bits e (λ i. zero_bit_good bs step_zero_bits step_head_bits e i && not (minus_zero bs value faces i))
  step-ruled =
      let r = zeros-ruled bs step_zero_bits step_head_bits e (omega arith) in
      record {
        lead = λ i m. both i (r.lead i m) (past-signs i (inl (omega arith)));
        head_clear = λ i m q. both i (r.head_clear i m q) (past-signs i (inl m));
        head_set = λ i m n q. zero i (r.head_set i m n q);
        tail_clear = λ i m q. both i (r.tail_clear i m q) (past-signs i (inr (omega arith)));
        tail_set = λ i m q. zero i (r.tail_set i m q);
      }

  -- up to the first minus of size 0 the fields are good, and at its sign they are not
  pub fluxes-good : {r : ℕ} → FirstMinus bs value faces r → (j : ℕ) → step_head_bits ≤ j → j < step_head_bits + r * (sign_bits + value)
      → (zero_bit_good bs step_zero_bits step_head_bits e j && not (minus_zero bs value faces j)) ≡ true
  fluxes-good {r} m j h k = both j (bit-used bs step_zero_bits step_head_bits e j (inr h) (omega (arith, mul-le-mul_right (sign_bits + value) m.end)))
      (no_minus bs value faces r m.plain j (inl k))

  pub sign-bad : {r : ℕ} → FirstMinus bs value faces r → r < faces
      → (zero_bit_good bs step_zero_bits step_head_bits e (step_head_bits + r * (sign_bits + value))
      && not (minus_zero bs value faces (step_head_bits + r * (sign_bits + value)))) ≡ false
  sign-bad {r} m k = rw (m.minus k) (and-false (zero_bit_good bs step_zero_bits step_head_bits e (step_head_bits + r * (sign_bits + value))))

  pub all-good : {r : ℕ} → FirstMinus bs value faces r → faces ≤ r → (j : ℕ) → step_head_bits ≤ j → j < e
      → (zero_bit_good bs step_zero_bits step_head_bits e j && not (minus_zero bs value faces j)) ≡ true
  all-good {r} m k j h n = both j (bit-used bs step_zero_bits step_head_bits e j (inr h) n)
      (no_minus bs value faces r m.plain j (either (dec_lt j (step_head_bits + faces * (sign_bits + value)))))
    where
      either : Dec (j < step_head_bits + faces * (sign_bits + value))
          → (j < step_head_bits + r * (sign_bits + value)) ⊎ (step_head_bits + faces * (sign_bits + value) ≤ j)
      either (yes q) = inl (omega (arith, mul-le-mul_right (sign_bits + value) k))
      either (no f) = inr (omega arith)
