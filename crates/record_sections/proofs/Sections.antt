-- Laws of sections, over any widths and counts: sizes, where each field stands, reading undoes writing, and writing undoes reading.
use mathlib.Core.Path.{◌≡◌, refl, sym, ap, ◌∙◌}
use mathlib.Core.Bool.{Bool, true, false, cond}
use mathlib.Core.List.{List, [], ◌∷◌}
use Prim.Native.Nat.{ℕ, zero, suc, ◌+◌, ◌*◌, ◌≤◌, ◌<◌}
use native.Mathlib.Nat.{not-suc-le-zero, le_of_suc-le-suc, add-zero, zero-add, add_assoc, add-mul, one-mul, zero-mul}
use native.Mathlib.Omega.{arith}
use lib.ListN.{length, get_or}
use Rattle.lists.specs.Fold.{sum}
use Rattle.lists.specs.Table.{table}
use Rattle.lists.proofs.Tables.{table-cong}
use Rattle.record_bits.specs.Field.{bit_at, bits_at}
use Rattle.record_bits.specs.Layout.{Field, field, width_of, rows, bytes_for}
use Rattle.record_bits.proofs.Layouts.{width-append, width-rows-of, length-packed, Stands, stands_here, stands-later, stands-left, stands-right, stands-row, read-packed}
use Rattle.record_bits.proofs.Readings.{ReadFrom, read_none, read_more, read-append, read-rows, pack-read}
use Rattle.record_sections.specs.Sections.{Section, per, per_that, those, rows_of, widths_of, has_row, rows_before, row_bits, section_bits, shape_bits, section_in, offset_of, place, width, Has, Values, row, section_row, fields_of, record_of, length_of, Fits, value_in, entry_in, column_in}

-- sizes

pub width-row : (ws : List ℕ) (v : ℕ → ℕ → ℕ) (i : ℕ) → width_of (row ws v i) ≡ row_bits ws
unfolding width_of row
width-row [] v i = refl
width-row (w ∷ ws) v i = ap (λ (n : ℕ). w + n) (width-row ws (λ j. v (suc j)) i)

those-one : (ws : List ℕ) (v : ℕ → ℕ → ℕ) (b : Bool) (i : ℕ) → width_of (cond b (row ws v i) []) ≡ cond b 1 0 * row_bits ws
unfolding width_of
those-one ws v true i = width-row ws v i ∙ sym (one-mul (row_bits ws))
those-one ws v false i = sym (zero-mul (row_bits ws))

pub width-rows-before : (s : Section) (v : ℕ → ℕ → ℕ) (n : ℕ) → width_of (rows n (section_row s v)) ≡ rows_before s n * row_bits (widths_of s)
unfolding width_of rows sum those
width-rows-before (per m ws) v n = width-rows-of (row_bits ws) n (section_row (per m ws) v) (λ i l. width-row ws v i)
width-rows-before (per_that m test ws) v zero = sym (zero-mul (row_bits ws))
width-rows-before (per_that m test ws) v (suc n) =
    width-append (rows n (section_row (per_that m test ws) v)) (section_row (per_that m test ws) v n)
    ∙ rw (width-rows-before (per_that m test ws) v n, those-one ws v (test n) n)
    (sym (add-mul (sum n (λ k. cond (test k) 1 0)) (cond (test n) 1 0) (row_bits ws)))

pub width-fields : (S : List Section) (v : Values) → width_of (fields_of S v) ≡ shape_bits S
unfolding fields_of width_of
width-fields [] v = refl
width-fields (s ∷ S) v = width-append (rows (rows_of s) (section_row s (v 0))) (fields_of S (λ k. v (suc k)))
    ∙ rw (width-rows-before s (v 0) (rows_of s), width-fields S (λ k. v (suc k)))

pub length-record : (S : List Section) (v : Values) → length (record_of S v) ≡ length_of S
unfolding record_of
length-record S v = length-packed (fields_of S v) ∙ ap bytes_for (width-fields S v)

-- where each field stands

row-stands : (ws : List ℕ) (v : ℕ → ℕ → ℕ) (i j : ℕ) → j < length ws → Stands (row ws v i) (offset_of ws j) (get_or ws j 0) (v j i)
unfolding row
row-stands [] v i j l = absurd (not-suc-le-zero l)
row-stands (w ∷ ws) v i zero l = stands_here
row-stands (w ∷ ws) v i (suc j) l = stands-later (row-stands ws (λ c. v (suc c)) i j (le_of_suc-le-suc l))

section-stands : (s : Section) (v : ℕ → ℕ → ℕ) (i j : ℕ) → i < rows_of s → has_row s i ≡ true → j < length (widths_of s)
    → Stands (rows (rows_of s) (section_row s v)) (rows_before s i * row_bits (widths_of s) + offset_of (widths_of s) j) (get_or (widths_of s) j 0) (v j i)
section-stands s v i j l h m =
    let here : Stands (section_row s v i) (offset_of (widths_of s) j) (get_or (widths_of s) j 0) (v j i) = rw h (row-stands (widths_of s) v i j m) in
    rw (width-rows-before s v i) at (stands-row (rows_of s) (section_row s v) i l here)

-- a field of the later sections
pub later : {s : Section} {S : List Section} {k j i : ℕ} → Has S k j i → Has (s ∷ S) (suc k) j i
later h = record { below = h.below; there = h.there; among = h.among }

pub sooner : {s : Section} {S : List Section} {k j i : ℕ} → Has (s ∷ S) (suc k) j i → Has S k j i
sooner h = record { below = h.below; there = h.there; among = h.among }

pub fields-stand : (S : List Section) (v : Values) (k j i : ℕ) → Has S k j i → Stands (fields_of S v) (place S k j i) (width S k j) (v k j i)
unfolding fields_of
fields-stand [] v k j i h = absurd (not-suc-le-zero h.below)
fields-stand (s ∷ S) v zero j i h = moved (stands-left (fields_of S (λ k. v (suc k))) (section-stands s (v 0) i j h.below h.there h.among))
  where
    moved : {fs : List Field} {w x : ℕ} → Stands fs (rows_before s i * row_bits (widths_of s) + offset_of (widths_of s) j) w x
        → Stands fs (place (s ∷ S) zero j i) w x
    moved t = let e : rows_before s i * row_bits (widths_of s) + offset_of (widths_of s) j ≡ place (s ∷ S) zero j i = omega arith in rw e at t
fields-stand (s ∷ S) v (suc k) j i h = moved (stands-right (rows (rows_of s) (section_row s (v 0))) (fields-stand S (λ n. v (suc n)) k j i (sooner h)))
  where
    moved : {fs : List Field} {w x : ℕ} → Stands fs (width_of (rows (rows_of s) (section_row s (v 0))) + place S k j i) w x
        → Stands fs (place (s ∷ S) (suc k) j i) w x
    moved t =
        let e : width_of (rows (rows_of s) (section_row s (v 0))) + place S k j i ≡ place (s ∷ S) (suc k) j i = omega (arith, width-rows-before s (v 0) (rows_of s))
        in
        rw e at t

-- a field ends before the record does
stands-end : {fs : List Field} {p w x : ℕ} → Stands fs p w x → p + w ≤ width_of fs
unfolding width_of
stands-end {w = w} {x = x} s = rw (s.whole, width-append s.ahead (field w x ∷ s.rest)) (omega (arith, s.place))

pub place_end : (S : List Section) (k j i : ℕ) → Has S k j i → place S k j i + width S k j ≤ shape_bits S
place_end S k j i h = let none : Values = λ a b d. 0 in rw (width-fields S none) at (stands-end (fields-stand S none k j i h))

-- reading undoes writing

module _ (S : List Section) (v : Values) (fits : Fits S v) where
  pub value-back : (k j i : ℕ) → Has S k j i → value_in (record_of S v) S k j i ≡ v k j i
  unfolding record_of
  value-back k j i h = read-packed (fields_of S v) (fields-stand S v k j i h) refl (fits k j i h)

  pub column-back : (k j : ℕ) → j < length (widths_of (section_in S k)) → column_in (record_of S v) S k j
      ≡ table (rows_of (section_in S k)) (λ i. cond (has_row (section_in S k) i) (v k j i) 0)
  column-back k j l = table-cong {A = ℕ} 0 (rows_of (section_in S k)) (entry_in (record_of S v) S k j) (λ i. cond (has_row (section_in S k) i) (v k j i) 0)
      (λ i m. entry i m (has_row (section_in S k) i) refl)
    where
      entry : (i : ℕ) → i < rows_of (section_in S k) → (b : Bool) → has_row (section_in S k) i ≡ b → cond b (value_in (record_of S v) S k j i) 0 ≡ cond b (v k j i) 0
      entry i m true e = value-back k j i (record { below = m; there = e; among = l })
      entry i m false e = refl

-- writing undoes reading

row_read : (bs : List ℕ) (at : ℕ) (ws : List ℕ) (v : ℕ → ℕ → ℕ) (i : ℕ) → ((j : ℕ) → j < length ws → v j i ≡ bits_at bs (at + offset_of ws j) (get_or ws j 0))
    → ReadFrom bs at (row ws v i)
unfolding row
row_read bs at [] v i h = read_none
row_read bs at (w ∷ ws) v i h =
    read_more (h 0 (omega arith) ∙ ap (λ (p : ℕ). bits_at bs p w) (add-zero at))
    (row_read bs (at + w) ws (λ j. v (suc j)) i (λ j l. h (suc j) (omega arith)
    ∙ ap (λ (p : ℕ). bits_at bs p (get_or ws j 0)) (sym (add_assoc at w (offset_of ws j)))))

section-read : (bs : List ℕ) (at : ℕ) (s : Section) (v : ℕ → ℕ → ℕ)
    → ((j i : ℕ) → i < rows_of s → has_row s i ≡ true → j < length (widths_of s) → v j i
    ≡ bits_at bs (at + (rows_before s i * row_bits (widths_of s) + offset_of (widths_of s) j)) (get_or (widths_of s) j 0))
    → ReadFrom bs at (rows (rows_of s) (section_row s v))
section-read bs at s v h = read-rows (rows_of s) (section_row s v) (λ i l. rw (width-rows-before s v i) (one i l (has_row s i) refl))
  where
    one : (i : ℕ) → i < rows_of s → (b : Bool) → has_row s i ≡ b → ReadFrom bs (at + rows_before s i * row_bits (widths_of s)) (cond b (row (widths_of s) v i) [])
    one i l true e = row_read bs (at + rows_before s i * row_bits (widths_of s)) (widths_of s) v i
        (λ j m. h j i l e m ∙ ap (λ (p : ℕ). bits_at bs p (get_or (widths_of s) j 0))
        (sym (add_assoc at (rows_before s i * row_bits (widths_of s)) (offset_of (widths_of s) j))))
    one i l false e = read_none

pub fields_read : (bs : List ℕ) (at : ℕ) (S : List Section) (v : Values) → ((k j i : ℕ) → Has S k j i → v k j i ≡ bits_at bs (at + place S k j i) (width S k j))
    → ReadFrom bs at (fields_of S v)
unfolding fields_of
fields_read bs at [] v h = read_none
fields_read bs at (s ∷ S) v h =
    read-append (fields_of S (λ k. v (suc k)))
    (section-read bs at s (v 0) (λ j i l e m. h 0 j i (record { below = l; there = e; among = m })
    ∙ ap (λ (p : ℕ). bits_at bs p (get_or (widths_of s) j 0)) (first j i)))
    (rw (width-rows-before s (v 0) (rows_of s)) (fields_read bs (at + section_bits s) S (λ k. v (suc k))
    (λ k j i q. h (suc k) j i (later q) ∙ ap (λ (p : ℕ). bits_at bs p (width S k j)) (next k j i))))
  where
    first : (j i : ℕ) → at + place (s ∷ S) 0 j i ≡ at + (rows_before s i * row_bits (widths_of s) + offset_of (widths_of s) j)
    first j i = omega arith

    next : (k j i : ℕ) → at + place (s ∷ S) (suc k) j i ≡ at + section_bits s + place S k j i
    next k j i = omega arith

-- a record of the right length whose padding is clear is what packing its values gives
pub record-again : (bs : List ℕ) (S : List Section) (v : Values) → length bs ≡ length_of S → ((j : ℕ) → get_or bs j 0 < 256)
    → ((i : ℕ) → shape_bits S ≤ i → i < 8 * length bs → bit_at bs i ≡ 0) → ((k j i : ℕ) → Has S k j i → v k j i ≡ value_in bs S k j i) → record_of S v ≡ bs
unfolding record_of
record-again bs S v len small pad same =
    pack-read bs (fields_of S v)
    (fields_read bs 0 S v (λ k j i h. same k j i h ∙ ap (λ (p : ℕ). bits_at bs p (width S k j)) (sym (zero-add (place S k j i)))))
    (len ∙ ap bytes_for (sym (width-fields S v))) small
    (λ i l m. pad i (rw (width-fields S v) at l) m)
