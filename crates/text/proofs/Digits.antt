-- The kit's digits of a number, the fewest that hold it, are those of the definition: by induction on the width.
use Prim.Native.Nat.{ℕ, zero, suc, ◌+◌, ◌-◌, ◌/◌, ◌%◌, ◌^◌, ◌≤◌, ◌<◌}
use mathlib.Core.Path.{◌≡◌, refl}
use mathlib.Core.Bool.{Bool, true, false, cond}
use mathlib.Core.List.{[], ◌∷◌, ◌++◌}
use native.Mathlib.Nat.{pow-suc, pow-zero, one-le-pow, pow-le-pow_right, mod-lt, mod-eq_of_lt, le-div_iff_mul-le, div-lt_iff_lt-mul}
use native.Mathlib.Omega.{arith}
use borrow.Author.Tests.{lt-ltb, le-ltb}
use lib.Dec.{leb, ltb}
use lib.ListN.{length, length-append}
use Rattle.lists.proofs.Tests.{Fits, fits, exceeds, fits?}
use Rattle.io.specs.Digits.{hex_digit_ascii, IsDigitCount}
use Rattle.io.specs.Digits.{last_digits as lastDigits}
use Rattle.text.specs.Digits.{digits, nought}

digit_glyph : (d : ℕ) → d < 10 → hex_digit_ascii d ≡ nought + d
digit_glyph d h = rw (lt-ltb d 10 h)

below : (width k n : ℕ) → k < width → n < 10 ^ suc k → (1 < suc k → 10 ^ k ≤ n) → lastDigits 10 (suc k) n ≡ digits width n
unfolding digits
below zero k n h u l = absurd (omega arith)
below (suc w) zero n h u l =
    let u' : n < 10 = omega (arith, pow-suc 10 0, pow-zero 10) in
    rw (mod-eq_of_lt u', lt-ltb n 10 u')
below (suc w) (suc k) n h u l =
    let big : 10 ≤ n = omega (arith, pow-suc 10 k, one-le-pow k 10 (omega arith), l (omega arith)) in
    let up : n / 10 < 10 ^ suc k = (div-lt_iff_lt-mul {k = 10} {x = n} {y = 10 ^ suc k} (omega arith)).1 (rw (pow-suc 10 (suc k)) at u) in
    let low : 10 ^ k ≤ n / 10 = (le-div_iff_mul-le {k = 10} {x = 10 ^ k} {y = n} (omega arith)).1 (rw (pow-suc 10 k) at (l (omega arith))) in
    rw (le-ltb n 10 big, below w k (n / 10) (omega arith) up (λ z. low), digit_glyph (n % 10) (mod-lt n (omega arith)))

-- a number below 10 ^ width has at most so many digits
pub few-digits : (width k n : ℕ) → 0 < width → n < 10 ^ width → IsDigitCount 10 1 n k → k ≤ width
few-digits width k n w u f = go (leb k width) (fits? k width)
  where
    go : (b : Bool) → Fits k width b → k ≤ width
    go true (fits h) = h
    go false (exceeds h) = absurd (omega (arith, f.2 (omega arith), pow-le-pow_right {n = 10} (omega arith) {i = width} {j = k - 1} (omega arith)))

pub fewest-digits : (width k n : ℕ) → 0 < width → n < 10 ^ width → IsDigitCount 10 1 n k → lastDigits 10 k n ≡ digits width n
fewest-digits width zero n w u f = absurd (omega arith)
fewest-digits width (suc k) n w u f =
    let q : suc k - 1 ≡ k = omega arith in
    below width k n (few-digits width (suc k) n w u f) f.1 (λ z. rw q at (f.2 z))

length_last : (k n : ℕ) → length (lastDigits 10 k n) ≡ k
length_last zero n = refl
length_last (suc k) n = rw length-append (omega (arith, length_last k (n / 10)))

pub count-digits : (width k n : ℕ) → 0 < width → n < 10 ^ width → IsDigitCount 10 1 n k → length (digits width n) ≡ k
count-digits width k n w u f = rw (← fewest-digits width k n w u f) (length_last k n)

-- however many digits are allowed for, a number below 10 ^ width has at most so many
pub digits-fit : (most width n : ℕ) → 0 < width → n < 10 ^ width → length (digits most n) ≤ width
unfolding digits
digits-fit zero width n w u = omega arith
digits-fit (suc most) zero n w u = absurd (omega arith)
digits-fit (suc most) (suc v) n w u = go (leb 10 n) (fits? 10 n) (digits-fit most v (n / 10))
  where
    go : (b : Bool) → Fits 10 n b → (0 < v → n / 10 < 10 ^ v → length (digits most (n / 10)) ≤ v) → length (digits (suc most) n) ≤ suc v
    go true (fits h) ih =
        let up : n / 10 < 10 ^ v = (div-lt_iff_lt-mul {k = 10} {x = n} {y = 10 ^ v} (omega arith)).1 (rw (pow-suc 10 v) at u) in
        let some : 0 < v = more v u in
        rw (le-ltb n 10 h) (rw length-append (omega (arith, ih some up)))
      where
        more : (v : ℕ) → n < 10 ^ suc v → 0 < v
        more zero u = absurd (omega (arith, pow-suc 10 0, pow-zero 10))
        more (suc v) u = omega arith
    go false (exceeds h) ih = rw (lt-ltb n 10 h) (omega arith)

pub length_digits : (width n : ℕ) → length (digits width n) ≤ width
unfolding digits
length_digits zero n = omega arith
length_digits (suc w) n = go (ltb n 10) (length_digits w (n / 10))
  where
    go : (b : Bool) → length (digits w (n / 10)) ≤ w → length (cond b ((nought + n) ∷ []) (digits w (n / 10) ++ ((nought + n % 10) ∷ []))) ≤ suc w
    go true h = omega arith
    go false h = rw length-append (omega arith)
