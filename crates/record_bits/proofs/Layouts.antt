-- Laws of layouts, over any fields and any width: sizes, bits, and the value read at a field's place.
use mathlib.Core.Path.{◌≡◌, refl, sym, ap, ◌∙◌}
use mathlib.Core.Logic.{◌⊎◌, inl, inr}
use mathlib.Core.List.{List, [], ◌∷◌, ◌++◌, append_assoc}
use Prim.Native.Nat.{ℕ, zero, suc, ◌+◌, ◌-◌, ◌*◌, ◌/◌, ◌%◌, ◌^◌, ◌≤◌, ◌<◌}
use native.Mathlib.Nat.{zero-add, mod-lt, zero-div, div-one, mod-one, mul-one, mul_assoc, pow-zero, pow-suc, mod-eq_of_lt, not-suc-le-zero, le_of_suc-le-suc, eq-or-lt_of_le}
use native.Mathlib.Numerals.{add-one}
use native.Mathlib.Decide.{dec_lt}
use native.Mathlib.Omega.{arith}
use lib.ListN.{length, get_or, length-append, get_or-append, get_or-eq_default}
use lib.Seq.{get_or-append-add}
use lib.Pow.{mod-pow-add, shr-shr}
use Rattle.lists.specs.Fold.{sum}
use Rattle.lists.specs.Table.{table}
use Rattle.lists.proofs.Sums.{sum-cong, sum-scale}
use Rattle.lists.proofs.Tables.{length-table, get_or-table}
use Rattle.record_bits.specs.Field.{bit_at, bits_at}
use Rattle.record_bits.specs.Layout.{Field, field, spelled, bits_of, width_of, bytes_for, octet, packed, rows}

-- sizes

pub length-spelled : (w v : ℕ) → length (spelled w v) ≡ w
unfolding spelled
length-spelled zero v = refl
length-spelled (suc w) v = ap suc (length-spelled w v)

pub length-bits : (fs : List Field) → length (bits_of fs) ≡ width_of fs
unfolding bits_of width_of
length-bits [] = refl
length-bits (f ∷ fs) = omega (arith, length-append (spelled f.width f.value) (bits_of fs), length-spelled f.width f.value, length-bits fs)

pub length-packed : (fs : List Field) → length (packed fs) ≡ bytes_for (width_of fs)
unfolding packed
length-packed fs = length-table _ _

-- whole bytes hold the bits, and 7 more at most
pub bytes-hold : (n : ℕ) → n ≤ 8 * bytes_for n
unfolding bytes_for
bytes-hold n = omega arith

pub bytes_most : (n : ℕ) → 8 * bytes_for n ≤ n + 7
unfolding bytes_for
bytes_most n = omega arith

pub width-append : (a b : List Field) → width_of (a ++ b) ≡ width_of a + width_of b
unfolding width_of
width-append [] b = sym (zero-add (width_of b))
width-append (f ∷ a) b = omega (arith, width-append a b)

-- rows of one width
pub width-rows-of : (w n : ℕ) (g : ℕ → List Field) → ((i : ℕ) → i < n → width_of (g i) ≡ w) → width_of (rows n g) ≡ n * w
unfolding width_of rows
width-rows-of w zero g h = omega arith
width-rows-of w (suc n) g h = omega (arith, width-append (rows n g) (g n), width-rows-of w n g (λ i l. h i (omega arith)), h n (omega arith))

-- bits

pub bits-append : (a b : List Field) → bits_of (a ++ b) ≡ bits_of a ++ bits_of b
unfolding bits_of
bits-append [] b = refl
bits-append (f ∷ a) b = rw (bits-append a b) (sym (append_assoc (spelled f.width f.value) (bits_of a) (bits_of b)))

-- entries of a list and of what follows it stay below a bound
pub append-lt : (m : ℕ) (xs ys : List ℕ) → ((i : ℕ) → get_or xs i 0 < m) → ((i : ℕ) → get_or ys i 0 < m) → (i : ℕ) → get_or (xs ++ ys) i 0 < m
append-lt m [] ys p q i = q i
append-lt m (x ∷ xs) ys p q zero = p zero
append-lt m (x ∷ xs) ys p q (suc i) = append-lt m xs ys (λ j. p (suc j)) q i

spelled-lt : (w v i : ℕ) → get_or (spelled w v) i 0 < 2
unfolding spelled
spelled-lt zero v i = omega arith
spelled-lt (suc w) v zero = mod-lt _ (omega arith)
spelled-lt (suc w) v (suc i) = spelled-lt w v i

each-lt : (fs : List Field) (i : ℕ) → get_or (bits_of fs) i 0 < 2
unfolding bits_of
each-lt [] i = omega arith
each-lt (f ∷ fs) i = append-lt 2 (spelled f.width f.value) (bits_of fs) (spelled-lt f.width f.value) (each-lt fs) i

pub spelled-bit : (w v i : ℕ) → i < w → get_or (spelled w v) i 0 ≡ v / 2 ^ (w - suc i) % 2
unfolding spelled
spelled-bit zero v i l = absurd (not-suc-le-zero l)
spelled-bit (suc w) v zero l = let e : w ≡ suc w - suc zero = omega arith in ap (λ (j : ℕ). v / 2 ^ j % 2) e
spelled-bit (suc w) v (suc i) l = let e : w - suc i ≡ suc w - suc (suc i) = omega arith in spelled-bit w v i (le_of_suc-le-suc l)
    ∙ ap (λ (j : ℕ). v / 2 ^ j % 2) e

-- bit i of a field, after the bits of the fields ahead of it
pub field-bit : (pre post : List Field) (w v i : ℕ) → i < w → get_or (bits_of (pre ++ field w v ∷ post)) (width_of pre + i) 0 ≡ v / 2 ^ (w - suc i) % 2
unfolding bits_of
field-bit pre post w v i l =
    rw (bits-append pre (field w v ∷ post), ← length-bits pre)
    (get_or-append-add (bits_of pre) (spelled w v ++ bits_of post) i 0
    ∙ get_or-append (spelled w v) (bits_of post) 0 i (rw (length-spelled w v) l)
    ∙ spelled-bit w v i l)

-- the number that bits b 0, .., b w make by their powers of 2: a digit more, its size, and its bits
weighed : (ℕ → ℕ) → ℕ → ℕ
weighed b w = sum (suc w) (λ k. b k * 2 ^ (w - k))

module _ (b : ℕ → ℕ) (small : (k : ℕ) → b k < 2) where
  weighed-more : (w : ℕ) → weighed b (suc w) ≡ 2 * weighed b w + b (suc w)
  unfolding weighed sum
  weighed-more w = omega (arith, front, last)
    where
      twice : (k : ℕ) → k < suc w → b k * 2 ^ (suc w - k) ≡ b k * 2 ^ (w - k) * 2
      twice k l =
          let e : suc w - k ≡ suc (w - k) = omega arith in
          ap (λ (j : ℕ). b k * 2 ^ j) e ∙ ap (λ (x : ℕ). b k * x) (pow-suc 2 (w - k)) ∙ sym (mul_assoc (b k) (2 ^ (w - k)) 2)

      front : sum (suc w) (λ k. b k * 2 ^ (suc w - k)) ≡ sum (suc w) (λ k. b k * 2 ^ (w - k)) * 2
      front = sum-cong (suc w) (λ k. b k * 2 ^ (suc w - k)) (λ k. b k * 2 ^ (w - k) * 2) twice ∙ sum-scale (suc w) 2 (λ k. b k * 2 ^ (w - k))

      last : b (suc w) * 2 ^ (suc w - suc w) ≡ b (suc w)
      last = let e : suc w - suc w ≡ 0 = omega arith in ap (λ (j : ℕ). b (suc w) * 2 ^ j) e ∙ mul-one (b (suc w))

  weighed-lt : (w : ℕ) → weighed b w < 2 ^ suc w
  unfolding weighed sum
  weighed-lt zero = omega (arith, small 0)
  weighed-lt (suc w) = omega (arith, weighed-more w, weighed-lt w, small (suc w), pow-suc 2 (suc w))

  weighed-bit : (w r : ℕ) → r ≤ w → weighed b w / 2 ^ (w - r) % 2 ≡ b r
  unfolding weighed sum
  weighed-bit zero r l = let e : r ≡ 0 = omega arith in rw e (omega (arith, small 0))
  weighed-bit (suc w) r l = go (eq-or-lt_of_le l) (weighed-bit w r)
    where
      go : (r ≡ suc w) ⊎ (r < suc w) → (r ≤ w → weighed b w / 2 ^ (w - r) % 2 ≡ b r) → weighed b (suc w) / 2 ^ (suc w - r) % 2 ≡ b r
      go (inl e) ih =
          let z : suc w - r ≡ 0 = omega arith in
          ap (λ (j : ℕ). weighed b (suc w) / 2 ^ j % 2) z ∙ ap (λ (x : ℕ). x % 2) (div-one (weighed b (suc w))) ∙ ap (λ (x : ℕ). x % 2) (weighed-more w)
          ∙ rw e (omega (arith, small (suc w)))
      go (inr m) ih =
          let e : suc w - r ≡ 1 + (w - r) = omega arith in
          let half : weighed b (suc w) / 2 ^ 1 ≡ weighed b w = omega (arith, weighed-more w, small (suc w)) in
          ap (λ (j : ℕ). weighed b (suc w) / 2 ^ j % 2) e ∙ ap (λ (x : ℕ). x % 2) (sym (shr-shr (weighed b (suc w)) 1 (w - r)))
          ∙ ap (λ (x : ℕ). x / 2 ^ (w - r) % 2) half ∙ ih (omega arith)

pub packed_lt : (fs : List Field) (j : ℕ) → get_or (packed fs) j 0 < 256
unfolding packed octet weighed
packed_lt fs j = go (dec_lt j (bytes_for (width_of fs)))
  where
    n : ℕ
    n = bytes_for (width_of fs)

    g : ℕ → ℕ
    g = λ k. sum 8 (λ i. get_or (bits_of fs) (8 * k + i) 0 * 2 ^ (7 - i))

    go : Dec (j < n) → get_or (table n g) j 0 < 256
    go (yes l) = rw (get_or-table n g 0 j l) (weighed-lt (λ k. get_or (bits_of fs) (8 * j + k) 0) (λ k. each-lt fs (8 * j + k)) 7)
    go (no f) =
        let e : get_or (table n g) j 0 ≡ 0 = get_or-eq_default (table n g) 0 (rw (length-table n g) (omega arith)) in
        omega arith

-- the bits of the bytes are the bits of the fields, and 0 from there on
pub packed-bit : (fs : List Field) (i : ℕ) → bit_at (packed fs) i ≡ get_or (bits_of fs) i 0
unfolding bit_at packed octet bytes_for weighed
packed-bit fs i = go (dec_lt (i / 8) n)
  where
    n : ℕ
    n = (width_of fs + 7) / 8

    g : ℕ → ℕ
    g = λ k. sum 8 (λ j. get_or (bits_of fs) (8 * k + j) 0 * 2 ^ (7 - j))

    go : Dec (i / 8 < n) → get_or (table n g) (i / 8) 0 / 2 ^ (7 - i % 8) % 2 ≡ get_or (bits_of fs) i 0
    go (yes l) =
        let e : 8 * (i / 8) + i % 8 ≡ i = omega arith in
        ap (λ (x : ℕ). x / 2 ^ (7 - i % 8) % 2) (get_or-table n g 0 (i / 8) l)
        ∙ weighed-bit (λ k. get_or (bits_of fs) (8 * (i / 8) + k) 0) (λ k. each-lt fs (8 * (i / 8) + k)) 7 (i % 8) (omega arith)
        ∙ ap (λ (k : ℕ). get_or (bits_of fs) k 0) e
    go (no f) =
        let past : length (table n g) ≤ i / 8 = omega (arith, length-table n g) in
        let out : length (bits_of fs) ≤ i = omega (arith, length-bits fs) in
        ap (λ (x : ℕ). x / 2 ^ (7 - i % 8) % 2) (get_or-eq_default (table n g) 0 past)
        ∙ ap (λ (x : ℕ). x % 2) (zero-div (2 ^ (7 - i % 8)))
        ∙ sym (get_or-eq_default (bits_of fs) 0 out)

pub packed-pad : (fs : List Field) (i : ℕ) → width_of fs ≤ i → bit_at (packed fs) i ≡ 0
packed-pad fs i l = packed-bit fs i ∙ get_or-eq_default (bits_of fs) 0 (rw (length-bits fs) l)

-- reading undoes packing

-- the number with these bits
pub number-of-bits : (bs : List ℕ) (at w v : ℕ) → ((i : ℕ) → i < w → bit_at bs (at + i) ≡ v / 2 ^ (w - suc i) % 2) → bits_at bs at w ≡ v % 2 ^ w
unfolding bits_at
number-of-bits bs at zero v h = rw (pow-zero 2) (sym (mod-one v))
number-of-bits bs at (suc w) v h =
    let z : suc w - suc w ≡ 0 = omega arith in
    let last : bit_at bs (at + w) ≡ v % 2 = h w (omega arith) ∙ ap (λ (j : ℕ). v / 2 ^ j % 2) z ∙ ap (λ (x : ℕ). x % 2) (div-one v) in
    let m : v % 2 ^ suc w ≡ (v / 2 ^ 1 % 2 ^ w) * 2 ^ 1 + v % 2 ^ 1 = ap (λ (j : ℕ). v % 2 ^ j) (sym (add-one w)) ∙ mod-pow-add v w 1 in
    let front : bits_at bs at w ≡ v / 2 ^ 1 % 2 ^ w = number-of-bits bs at w (v / 2 ^ 1) (λ i l. shift i l) in
    rw (front, last, m) (omega arith)
  where
    shift : (i : ℕ) → i < w → bit_at bs (at + i) ≡ v / 2 ^ 1 / 2 ^ (w - suc i) % 2
    shift i l =
        let e : suc w - suc i ≡ 1 + (w - suc i) = omega arith in
        h i (omega arith) ∙ ap (λ (j : ℕ). v / 2 ^ j % 2) e ∙ ap (λ (x : ℕ). x % 2) (sym (shr-shr v 1 (w - suc i)))

-- a field of w bits and value v stands in fs at bit p
pub record Stands (fs : List Field) (p w v : ℕ) : Type 0 where
  pub ahead : List Field
  pub rest : List Field
  pub whole : fs ≡ ahead ++ field w v ∷ rest
  pub place : width_of ahead ≡ p

pub stands_here : {w v : ℕ} {fs : List Field} → Stands (field w v ∷ fs) 0 w v
unfolding width_of
stands_here {fs = fs} = record { ahead = []; rest = fs; whole = refl; place = refl }

pub stands-later : {f : Field} {fs : List Field} {p w v : ℕ} → Stands fs p w v → Stands (f ∷ fs) (f.width + p) w v
unfolding width_of
stands-later {f = f} s = record { ahead = f ∷ s.ahead; rest = s.rest; whole = ap (λ t. f ∷ t) s.whole; place = ap (λ (k : ℕ). f.width + k) s.place }

pub stands-left : {a : List Field} {p w v : ℕ} (b : List Field) → Stands a p w v → Stands (a ++ b) p w v
stands-left {w = w} {v = v} b s =
    record {
      ahead = s.ahead;
      rest = s.rest ++ b;
      whole = ap (λ t. t ++ b) s.whole ∙ append_assoc s.ahead (field w v ∷ s.rest) b;
      place = s.place;
    }

pub stands-right : (a : List Field) {b : List Field} {p w v : ℕ} → Stands b p w v → Stands (a ++ b) (width_of a + p) w v
stands-right a {w = w} {v = v} s =
    record {
      ahead = a ++ s.ahead;
      rest = s.rest;
      whole = ap (λ t. a ++ t) s.whole ∙ sym (append_assoc a s.ahead (field w v ∷ s.rest));
      place = width-append a s.ahead ∙ ap (λ (k : ℕ). width_of a + k) s.place;
    }

pub stands-row : (n : ℕ) (g : ℕ → List Field) (i : ℕ) {p w v : ℕ} → i < n → Stands (g i) p w v → Stands (rows n g) (width_of (rows i g) + p) w v
unfolding rows
stands-row zero g i l s = absurd (not-suc-le-zero l)
stands-row (suc n) g i {p} {w} {v} l s = go (eq-or-lt_of_le (le_of_suc-le-suc l)) (λ m. stands-row n g i m s)
  where
    go : (i ≡ n) ⊎ (i < n) → (i < n → Stands (rows n g) (width_of (rows i g) + p) w v) → Stands (rows n g ++ g n) (width_of (rows i g) + p) w v
    go (inl e) ih = let t : Stands (g n) p w v = rw e at s in rw e (stands-right (rows n g) t)
    go (inr m) ih = stands-left (g n) (ih m)

pub read-packed : (fs : List Field) {p q w v : ℕ} → Stands fs p w v → q ≡ p → v < 2 ^ w → bits_at (packed fs) q w ≡ v
read-packed fs {p} {q} {w} {v} s e l =
    let at : q ≡ width_of s.ahead = e ∙ sym s.place in
    rw at
    (number-of-bits (packed fs) (width_of s.ahead) w v
    (λ i m. packed-bit fs (width_of s.ahead + i) ∙ ap (λ (t : List Field). get_or (bits_of t) (width_of s.ahead + i) 0) s.whole
    ∙ field-bit s.ahead s.rest w v i m)
    ∙ mod-eq_of_lt l)
