-- Bytes put after others as far as there is room: what one call leaves, what two leave one after the other, and that all is there where it fits.
use Prim.Native.Nat.{ℕ, ◌+◌, ◌-◌, ◌≤◌, min}
use mathlib.Core.Path.{◌≡◌, refl, sym, ap, ◌∙◌}
use mathlib.Core.Bool.{Bool, true, false}
use mathlib.Core.List.{List, [], ◌++◌, append_assoc}
use native.Mathlib.Numerals.{add-one}
use native.Mathlib.Omega.{arith}
use lib.Dec.{leb}
use lib.ListN.{length, take, drop, length-append, length-take, length-drop}
use lib.Seq.{paste, take_all, take-nil, take_at, take-append-add, take-append-le, take-take, drop-append-add, drop-drop}
use Rattle.lists.specs.Table.{over}
use Rattle.lists.proofs.Tests.{Fits, fits, exceeds, fits?}
use Rattle.text.specs.Digits.{most_digits}
use Rattle.text.specs.Lines.{word, mark, pieces, longer, Puts}
use Rattle.text.proofs.Digits.{length_digits}

-- no more can be taken than there is
take-clamped : (n : ℕ) (l : List ℕ) → take (min n (length l)) l ≡ take n l
take-clamped n l = go (leb n (length l)) (fits? n (length l))
  where
    go : (b : Bool) → Fits n (length l) b → take (min n (length l)) l ≡ take n l
    go true (fits h) = let q : min n (length l) ≡ n = omega arith in rw q
    go false (exceeds h) =
        let q : length l ≤ min n (length l) = omega arith in
        let r : length l ≤ n = omega arith in
        take_all (min n (length l)) l q ∙ sym (take_all n l r)

-- of two lists joined, as much of the second as the first leaves room for
fill : (width : ℕ) (xs ys : List ℕ) → length xs ≤ width → take width (xs ++ ys) ≡ xs ++ take (width - length xs) ys
fill width xs ys h =
    let q : width ≡ length xs + (width - length xs) = omega arith in
    ap (λ (w : ℕ). take w (xs ++ ys)) q ∙ take-append-add xs ys (width - length xs)

-- what was cut already is cut the same again
cut_twice : (width : ℕ) (xs ys : List ℕ) → take width (take width xs ++ ys) ≡ take width (xs ++ ys)
cut_twice width xs ys = go (leb (length xs) width) (fits? (length xs) width)
  where
    go : (b : Bool) → Fits (length xs) width b → take width (take width xs ++ ys) ≡ take width (xs ++ ys)
    go true (fits h) = rw (take_all width xs h)
    go false (exceeds h) =
        let l : width ≤ length xs = omega arith in
        let m : width ≤ length (take width xs) = rw length-take (omega arith) in
        take-append-le width (take width xs) ys m ∙ take-take width width xs (omega arith) ∙ sym (take-append-le width xs ys l)

module _ (lent : List ℕ) where
  longer-most : (at : ℕ) (more : List ℕ) → length (longer lent at more) ≤ length lent
  unfolding longer
  longer-most at more = rw length-take (omega arith)

  -- the parts that a call copies
  module _ (at start count : ℕ) (more : List ℕ) (s : start ≡ min at (length lent)) (k : count ≡ min (length lent - start) (length more)) where
    copied : longer lent at more ≡ take start lent ++ take count more
    unfolding longer
    copied =
        let first : take start lent ≡ take at lent = rw s (take-clamped at lent) in
        let second : take count more ≡ take (length lent - start) more = rw k (take-clamped (length lent - start) more) in
        let long : length (take at lent) ≡ start = rw length-take (omega arith) in
        let room : length (take at lent) ≤ length lent = omega arith in
        rw (first, second) (rw long at (fill (length lent) (take at lent) more room))

    pub appended : (lent' : List ℕ) → length (take count more) ≡ count → lent' ≡ paste lent start (take count more) (length (take count more))
        → Puts lent at more (start + count) lent'
    unfolding over
    appended lent' c e =
        let long : length (longer lent at more) ≡ start + count = rw (copied, length-append, c) (rw length-take (omega arith)) in
        let whole : take count (take count more) ≡ take count more = take-take count count more (omega arith) in
        record { ends = sym long; put = e ∙ rw (c, whole, long, copied) }

  module _ {at r : ℕ} {more lent' : List ℕ} (p : Puts lent at more r lent') where
    pub same_length : length lent' ≡ length lent
    unfolding over
    same_length = rw (p.put, length-append, length-drop) (omega (arith, longer-most at more))

    first-bytes : take r lent' ≡ longer lent at more
    unfolding over
    first-bytes = rw p.put (take_at (longer lent at more) _ r (sym p.ends))

    joined : (more' : List ℕ) → longer lent' r more' ≡ longer lent at (more ++ more')
    unfolding longer
    joined more' = rw (same_length, first-bytes) (cut_twice (length lent) (take at lent ++ more) more'
        ∙ ap (take (length lent)) (append_assoc (take at lent) more more'))

    grown : (more' : List ℕ) → length (longer lent at more) ≤ length (longer lent at (more ++ more'))
    unfolding longer
    grown more' = simp (length-take, length-append) (omega arith)

    -- one call after another puts both pieces
    pub both : {r' : ℕ} {more' lent'' : List ℕ} → Puts lent' r more' r' lent'' → Puts lent at (more ++ more') r' lent''
    unfolding over
    both {r'} {more'} {lent''} q =
        let X = longer lent at more in
        let Y = longer lent at (more ++ more') in
        let whole : longer lent' r more' ≡ Y = joined more' in
        let least : length X ≤ length Y = grown more' in
        let k : length Y ≡ length X + (length Y - length X) = omega arith in
        let tail : drop (length Y) (X ++ drop (length X) lent) ≡ drop (length Y) lent =
        ap (λ (n : ℕ). drop n (X ++ drop (length X) lent)) k ∙ drop-append-add X (drop (length X) lent) (length Y - length X)
        ∙ drop-drop (length Y - length X) (length X) lent ∙ ap (λ (n : ℕ). drop n lent) (sym k) in
        record { ends = q.ends ∙ ap length whole; put = q.put ∙ rw (whole, p.put) (ap (λ (t : List ℕ). Y ++ t) tail) }

    -- where there is room for all, all is there
    pub all_there : at + length more ≤ length lent → take r lent' ≡ take at lent ++ more
    unfolding longer
    all_there h =
        let q : length (take at lent ++ more) ≤ length lent = simp (length-append, length-take) (omega arith) in
        first-bytes ∙ take_all (length lent) (take at lent ++ more) q

    pub within : r ≤ length lent'
    within = omega (arith, p.ends, longer-most at more, same_length)

-- nothing put yet; pieces one after another; and from the start, with room for all
pub puts_none : (lent : List ℕ) → Puts lent 0 [] 0 lent
unfolding longer over
puts_none lent = record { ends = rw (take-nil (length lent)); put = rw (take-nil (length lent)) }

pub puts-more : (lent : List ℕ) (piece : ℕ → List ℕ) (n : ℕ) {at r : ℕ} {lent' lent'' : List ℕ}
    → Puts lent 0 (pieces n piece) at lent' → Puts lent' at (piece n) r lent'' → Puts lent 0 (pieces (n + 1) piece) r lent''
unfolding pieces
puts-more lent piece n p q = rw (add-one n) (both lent p q)

pub puts-all : (lent : List ℕ) {r : ℕ} {more lent' : List ℕ} → Puts lent 0 more r lent' → length more ≤ length lent → (r ≡ length more)
    × (lent' ≡ over more lent)
unfolding longer
puts-all lent {r} {more} {lent'} p h =
    let whole : longer lent 0 more ≡ more = take_all (length lent) more h in
    (p.ends ∙ ap length whole, p.put ∙ ap (λ (l : List ℕ). over l lent) whole)

pub length-word : (n after : ℕ) → length (word n after) ≤ most_digits + 1
unfolding word
length-word n after = rw length-append (omega (arith, length_digits most_digits n))

pub length-mark : (letter : ℕ) → length (mark letter) ≡ 2
unfolding mark
length-mark letter = refl
