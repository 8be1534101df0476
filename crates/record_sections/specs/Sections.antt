-- Document 01, "Record layouts", the shape of its table: a record is a list of sections, as a head, a part for each cell, a part for each
-- face. A section has rows, one after another, and a row has a field of each of the section's widths.
use Rattle.std.specs.Prelude.{◌≡◌, Bool, true, cond, List, [], ◌∷◌, ◌++◌, ℕ, zero, suc, ◌+◌, ◌*◌, ◌^◌, ◌<◌, eqb, length, get_or}
use Rattle.lists.specs.Fold.{sum}
use Rattle.lists.specs.Table.{table}
use Rattle.record_bits.specs.Field.{bits_at}
use Rattle.record_bits.specs.Layout.{Field, field, rows, bytes_for, packed}

pub data Section : Type 0 where
  -- a row for each cell, or for each face: n rows of these widths
  per : ℕ → List ℕ → Section
  -- a row for each rim face, in the order of the faces: of n rows those that a test names
  per_that : ℕ → (ℕ → Bool) → List ℕ → Section

-- a head is one row
abbrev pub once : List ℕ → Section
once widths = per 1 widths

abbrev pub rows_of : Section → ℕ
rows_of (per n widths) = n
rows_of (per_that n test widths) = n

abbrev pub widths_of : Section → List ℕ
widths_of (per n widths) = widths
widths_of (per_that n test widths) = widths

abbrev pub has_row : Section → ℕ → Bool
has_row (per n widths) i = true
has_row (per_that n test widths) i = test i

-- how many of the first n a test names
unfoldable pub those : (ℕ → Bool) → ℕ → ℕ
those test n = sum n (λ k. cond (test k) 1 0)

-- how many rows there are before row i
abbrev pub rows_before : Section → ℕ → ℕ
rows_before (per n widths) i = i
rows_before (per_that n test widths) i = those test i

-- a test by a table: the rows that it marks, as seconds mark the rim faces by 4,095
abbrev pub marked : ℕ → List ℕ → ℕ → Bool
marked mark marks i = eqb (get_or marks i 0) mark

-- Sizes: the bits of a row, of a section and of all sections.
abbrev pub row_bits : List ℕ → ℕ
row_bits [] = 0
row_bits (w ∷ ws) = w + row_bits ws

abbrev pub section_bits : Section → ℕ
section_bits s = rows_before s (rows_of s) * row_bits (widths_of s)

abbrev pub shape_bits : List Section → ℕ
shape_bits [] = 0
shape_bits (s ∷ S) = section_bits s + shape_bits S

-- Places: section k, where it begins, and where its column j begins in a row.
abbrev pub section_in : List Section → ℕ → Section
section_in [] k = per 0 []
section_in (s ∷ S) zero = s
section_in (s ∷ S) (suc k) = section_in S k

abbrev pub start_of : List Section → ℕ → ℕ
start_of [] k = 0
start_of (s ∷ S) zero = 0
start_of (s ∷ S) (suc k) = section_bits s + start_of S k

abbrev pub offset_of : List ℕ → ℕ → ℕ
offset_of [] j = 0
offset_of (w ∷ ws) zero = 0
offset_of (w ∷ ws) (suc j) = w + offset_of ws j

-- the field of section k, column j and row i: the bit at which it stands, and its width
abbrev pub place : List Section → ℕ → ℕ → ℕ → ℕ
place S k j i = start_of S k + rows_before (section_in S k) i * row_bits (widths_of (section_in S k)) + offset_of (widths_of (section_in S k)) j

abbrev pub width : List Section → ℕ → ℕ → ℕ
width S k j = get_or (widths_of (section_in S k)) j 0

-- there is such a field
pub record Has (S : List Section) (k j i : ℕ) : Type 0 where
  pub below : i < rows_of (section_in S k)
  pub there : has_row (section_in S k) i ≡ true
  pub among : j < length (widths_of (section_in S k))

-- The values of a record, by section, column and row; and a list of columns for each section as such values.
abbrev pub Values : Type 0
Values = ℕ → ℕ → ℕ → ℕ

abbrev pub always : ℕ → ℕ → ℕ
always x i = x

abbrev pub values : List (List (ℕ → ℕ)) → Values
values vs k j i = get_or (get_or vs k []) j (always 0) i

-- Writing: the fields of a record, in the order in which they stand.
unfoldable pub row : List ℕ → (ℕ → ℕ → ℕ) → ℕ → List Field
row [] v i = []
row (w ∷ ws) v i = field w (v 0 i) ∷ row ws (λ j. v (suc j)) i

abbrev pub section_row : Section → (ℕ → ℕ → ℕ) → ℕ → List Field
section_row s v i = cond (has_row s i) (row (widths_of s) v i) []

unfoldable pub fields_of : List Section → Values → List Field
fields_of [] v = []
fields_of (s ∷ S) v = rows (rows_of s) (section_row s (v 0)) ++ fields_of S (λ k. v (suc k))

-- the bytes of a record, and how many they are
unfoldable pub record_of : List Section → Values → List ℕ
record_of S v = packed (fields_of S v)

abbrev pub length_of : List Section → ℕ
length_of S = bytes_for (shape_bits S)

-- each value fits its field
abbrev pub Fits : List Section → Values → Type 0
Fits S v = (k j i : ℕ) → Has S k j i → v k j i < 2 ^ width S k j

-- Reading: the value that the bits at a field's place spell, and a column of them; where there is no row the column reads 0.
abbrev pub value_in : List ℕ → List Section → Values
value_in bs S k j i = bits_at bs (place S k j i) (width S k j)

abbrev pub entry_in : List ℕ → List Section → ℕ → ℕ → ℕ → ℕ
entry_in bs S k j i = cond (has_row (section_in S k) i) (value_in bs S k j i) 0

abbrev pub column_in : List ℕ → List Section → ℕ → ℕ → List ℕ
column_in bs S k j = table (rows_of (section_in S k)) (entry_in bs S k j)
