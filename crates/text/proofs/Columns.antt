-- Right-aligned numbers, over the width: how long they are, and that they read back; lines of one length, found again.
use Prim.Native.Nat.{ℕ, zero, suc, ◌+◌, ◌-◌, ◌*◌, ◌/◌, ◌%◌, ◌^◌, ◌≤◌, ◌<◌}
use mathlib.Core.Path.{◌≡◌, refl, sym, ap, ◌∙◌}
use mathlib.Core.Bool.{Bool, true, false}
use mathlib.Core.List.{List, [], ◌∷◌, ◌++◌, append_assoc}
use native.Mathlib.Nat.{pow-suc, pow-zero, pow-le-pow_right, div-lt_iff_lt-mul, div-add-mod', suc-mul}
use native.Mathlib.Omega.{arith}
use borrow.Author.Tests.{lt-ltb, le-ltb, ne_eqb}
use lib.Dec.{eqb, leb}
use lib.ListN.{length, take, drop, replicate, length-append, length-replicate}
use lib.Seq.{take_at, drop_at}
use Rattle.lists.proofs.Tests.{Same, same, other, same?, Fits, fits, exceeds, fits?}
use Rattle.text.specs.Digits.{digits, most_digits, nought}
use Rattle.text.specs.Lines.{word, column, pieces, space}
use Rattle.text.specs.Reading.{digit_of, read_digits, number_in, line_at}
use Rattle.text.proofs.Digits.{digits-fit}

-- so many spaces of many, and none in front of a word
pub fewer-blanks : (k n a : ℕ) → k ≤ n → take k (replicate n a) ≡ replicate k a
fewer-blanks zero n a h = refl
fewer-blanks (suc k) zero a h = absurd (omega arith)
fewer-blanks (suc k) (suc n) a h = ap (λ (l : List ℕ). a ∷ l) (fewer-blanks k n a (omega arith))

pub word-is : (n after : ℕ) → column 0 n after ≡ word n after
unfolding column
word-is n after = let q : 0 - length (digits most_digits n) ≡ 0 = omega arith in rw q

-- READING BACK
spelled-append : (before : ℕ) (xs ys : List ℕ) → read_digits before (xs ++ ys) ≡ read_digits (read_digits before xs) ys
unfolding read_digits
spelled-append before [] ys = refl
spelled-append before (x ∷ xs) ys = spelled-append (10 * before + digit_of x) xs ys

spelled-blanks : (n : ℕ) → read_digits 0 (replicate n space) ≡ 0
unfolding read_digits
spelled-blanks zero = refl
spelled-blanks (suc n) = spelled-blanks n

digit-back : (d : ℕ) → digit_of (nought + d) ≡ d
digit-back d = rw (ne_eqb (nought + d) space (λ e. omega arith)) (omega arith)

spelled-digits : (most n : ℕ) → n < 10 ^ most → read_digits 0 (digits most n) ≡ n
unfolding digits read_digits
spelled-digits zero n u = omega (arith, pow-zero 10)
spelled-digits (suc most) n u = go (leb 10 n) (fits? 10 n) (spelled-digits most (n / 10))
  where
    go : (b : Bool) → Fits 10 n b → (n / 10 < 10 ^ most → read_digits 0 (digits most (n / 10)) ≡ n / 10) → read_digits 0 (digits (suc most) n) ≡ n
    go true (fits h) ih =
        let up : n / 10 < 10 ^ most = (div-lt_iff_lt-mul {k = 10} {x = n} {y = 10 ^ most} (omega arith)).1 (rw (pow-suc 10 most) at u) in
        rw (le-ltb n 10 h, spelled-append 0 (digits most (n / 10)) ((nought + n % 10) ∷ []), ih up, digit-back (n % 10)) (omega (arith, div-add-mod' n 10))
    go false (exceeds h) ih = rw (lt-ltb n 10 h, digit-back n) (omega arith)

-- A NUMBER IN ITS COLUMNS, which it fits
module _ (width n after : ℕ) (w : 0 < width) (most : width ≤ most_digits) (u : n < 10 ^ width) where
  -- what stands in front of the byte after it
  figures : List ℕ
  figures = replicate (width - length (digits most_digits n)) space ++ digits most_digits n

  column-parts : column width n after ≡ figures ++ (after ∷ [])
  unfolding column word figures
  column-parts = sym (append_assoc (replicate (width - length (digits most_digits n)) space) (digits most_digits n) (after ∷ []))

  figures-length : length figures ≡ width
  unfolding figures
  figures-length = simp (length-append, length-replicate) (omega (arith, digits-fit most_digits width n w u))

  figures-back : read_digits 0 figures ≡ n
  unfolding figures
  figures-back =
      let v : n < 10 ^ most_digits = omega (arith, pow-le-pow_right {n = 10} (omega arith) {i = width} {j = most_digits} most) in
      spelled-append 0 (replicate (width - length (digits most_digits n)) space) (digits most_digits n)
      ∙ ap (λ (k : ℕ). read_digits k (digits most_digits n)) (spelled-blanks (width - length (digits most_digits n))) ∙ spelled-digits most_digits n v

  -- it fills its columns
  pub column-length : length (column width n after) ≡ width + 1
  column-length = rw (column-parts, length-append) (omega (arith, figures-length))

  -- and is read back from them, wherever they stand
  pub column-back : (at : ℕ) (xs ys : List ℕ) → length xs ≡ at → number_in (xs ++ (column width n after ++ ys)) at width ≡ n
  unfolding number_in
  column-back at xs ys e =
      let whole : take width (column width n after ++ ys) ≡ figures =
      ap (λ (l : List ℕ). take width (l ++ ys)) column-parts ∙ ap (take width) (append_assoc figures (after ∷ []) ys)
      ∙ take_at figures ((after ∷ []) ++ ys) width figures-length in
      rw (drop_at xs (column width n after ++ ys) at e, whole) figures-back

-- LINES OF ONE LENGTH
module _ (long : ℕ) (piece : ℕ → List ℕ) where
  pub pieces-length : (n : ℕ) → ((i : ℕ) → i < n → length (piece i) ≡ long) → length (pieces n piece) ≡ n * long
  unfolding pieces
  pieces-length zero h = omega arith
  pieces-length (suc n) h = rw (length-append, suc-mul n long) (omega (arith, pieces-length n (λ i l. h i (omega arith)), h n (omega arith)))

  -- each is found again at its place, and what comes after them at theirs
  pub piece-at : (n i : ℕ) (more : List ℕ) → ((i : ℕ) → i < n → length (piece i) ≡ long) → i < n → line_at long i (pieces n piece ++ more) ≡ piece i
  unfolding pieces line_at
  piece-at zero i more h l = absurd (omega arith)
  piece-at (suc n) i more h l = rw append_assoc (go (eqb i n) (same? i n) (piece-at n i (piece n ++ more) (λ j m. h j (omega arith))))
    where
      go : (b : Bool) → Same i n b → (i < n → line_at long i (pieces n piece ++ (piece n ++ more)) ≡ piece i)
          → take long (drop (i * long) (pieces n piece ++ (piece n ++ more))) ≡ piece i
      go true (same e) ih =
          rw (e, drop_at (pieces n piece) (piece n ++ more) (n * long) (pieces-length n (λ j m. h j (omega arith))))
          (take_at (piece n) more long (h n (omega arith)))
      go false (other d) ih = ih (omega arith)

  pub after-pieces : (n : ℕ) (last more : List ℕ) → ((i : ℕ) → i < n → length (piece i) ≡ long) → length last ≡ long
      → line_at long n (pieces n piece ++ (last ++ more)) ≡ last
  unfolding line_at
  after-pieces n last more h e = rw (drop_at (pieces n piece) (last ++ more) (n * long) (pieces-length n h)) (take_at last more long e)
