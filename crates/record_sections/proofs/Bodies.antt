-- A body, the part of a record from the head's end on: its columns are columns of the record, and a table that takes one holds it.
use Prim.Native.Nat.{ℕ, zero, suc, ◌+◌, ◌-◌, ◌*◌, ◌^◌, ◌≤◌, ◌<◌}
use mathlib.Core.Path.{◌≡◌, sym, ap, ◌∙◌}
use mathlib.Core.Bool.{Bool, true, cond}
use mathlib.Core.List.{List, [], ◌∷◌}
use native.Mathlib.Nat.{zero-mul}
use native.Mathlib.Omega.{arith}
use lib.ListN.{length, get_or, take, drop, length-drop}
use lib.Seq.{take_all}
use Rattle.lists.specs.Table.{table}
use Rattle.lists.proofs.Tables.{table-cong}
use Rattle.record_bits.specs.Field.{bits_at}
use Rattle.record_bits.specs.Put.{Put}
use Rattle.record_bits.proofs.Fields.{bits-drop}
use Rattle.record_sections.specs.Sections.{Section, per, rows_of, widths_of, has_row, rows_before, row_bits, section_bits, shape_bits, section_in, start_of, offset_of, place, width, Has, Values, Fits, value_in, entry_in, column_in}
use Rattle.record_sections.specs.Columns.{PutColumn}
use Rattle.record_sections.proofs.Sections.{place_end}
use Rattle.record_sections.proofs.Columns.{Written, and, written-column, column-one}

-- the body that is handed on
abbrev pub body_of : ℕ → List ℕ → List ℕ
body_of h bs = take (length bs - h) (drop h bs)

pub body_is : (h : ℕ) (bs : List ℕ) → body_of h bs ≡ drop h bs
body_is h bs = take_all (length bs - h) (drop h bs) (omega (arith, length-drop h bs))

pub body-length : (h : ℕ) (bs : List ℕ) → length (body_of h bs) ≡ length bs - h
body-length h bs = ap length (body_is h bs) ∙ length-drop h bs

-- a field of the body is one of the record, with the head before it, and so is a column
pub body-value : (h : ℕ) (bs : List ℕ) (head : Section) (S : List Section) (k j i : ℕ) → 8 * h ≡ section_bits head → value_in (body_of h bs) S k j i
    ≡ value_in bs (head ∷ S) (suc k) j i
body-value h bs head S k j i e =
    let p : 8 * h + place S k j i ≡ place (head ∷ S) (suc k) j i = omega arith in
    rw (body_is h bs) (bits-drop h bs (place S k j i) (width S k j) ∙ ap (λ (q : ℕ). bits_at bs q (width S k j)) p)

pub body-column : (h : ℕ) (bs : List ℕ) (head : Section) (S : List Section) (k j : ℕ) → 8 * h ≡ section_bits head → column_in (body_of h bs) S k j
    ≡ column_in bs (head ∷ S) (suc k) j
body-column h bs head S k j e =
    table-cong {A = ℕ} 0 (rows_of (section_in S k)) (entry_in (body_of h bs) S k j) (entry_in bs (head ∷ S) (suc k) j)
    (λ i l. ap (λ (x : ℕ). cond (has_row (section_in S k) i) x 0) (body-value h bs head S k j i e))

entry-le : (ws : List ℕ) (j : ℕ) → get_or ws j 0 ≤ row_bits ws
entry-le [] j = omega arith
entry-le (w ∷ ws) zero = omega arith
entry-le (w ∷ ws) (suc j) = omega (arith, entry-le ws j)

-- a column of a section that has every row, as `read_column` reads it
section_column : List ℕ → ℕ → ℕ → Section → List ℕ
section_column bs start j s =
    table (rows_of s) (λ i. cond (has_row s i) (bits_at bs (start + rows_before s i * row_bits (widths_of s) + offset_of (widths_of s) j) (get_or (widths_of s) j 0)) 0)

-- column j of section k has every row: n of them, the first field at a bit, the next so many bits further, each so wide
pub record Column (S : List Section) (k j n first stride w : ℕ) : Type 0 where
  pub widths : List ℕ
  pub every : section_in S k ≡ per n widths
  pub among : j < length widths
  pub wide : get_or widths j 0 ≡ w
  pub apart : row_bits widths ≡ stride
  pub begins : start_of S k + offset_of widths j ≡ first

module _ {S : List Section} {k j n first stride w : ℕ} (c : Column S k j n first stride w) where
  pub column-is : (bs : List ℕ) → table n (λ i. bits_at bs (first + i * stride) w) ≡ column_in bs S k j
  unfolding section_column
  column-is bs = table-cong {A = ℕ} 0 n (λ i. bits_at bs (first + i * stride) w) _ at ∙ ap (λ t. section_column bs (start_of S k) j t) (sym c.every)
    where
      at : (i : ℕ) → i < n → bits_at bs (first + i * stride) w
          ≡ bits_at bs (start_of S k + i * row_bits c.widths + offset_of c.widths j) (get_or c.widths j 0)
      at i l = let p : first + i * stride ≡ start_of S k + i * stride + offset_of c.widths j = omega (arith, c.begins) in rw (c.apart, c.wide, ← p)

  pub column-rows : rows_of (section_in S k) ≡ n
  column-rows = ap rows_of c.every

  pub column-among : j < length (widths_of (section_in S k))
  column-among = rw c.every c.among

  pub column-width : width S k j ≡ w
  column-width = ap (λ t. get_or (widths_of t) j 0) c.every ∙ c.wide

  pub column-there : (i : ℕ) → has_row (section_in S k) i ≡ true
  column-there i = ap (λ t. has_row t i) c.every

  pub column-has : (i : ℕ) → i < n → Has S k j i
  column-has i l = record { below = rw column-rows l; there = column-there i; among = column-among }

  pub column-place : (i : ℕ) → place S k j i ≡ first + i * stride
  column-place i =
      let p : first + i * stride ≡ start_of S k + i * stride + offset_of c.widths j = omega (arith, c.begins) in
      ap (λ t. start_of S k + rows_before t i * row_bits (widths_of t) + offset_of (widths_of t) j) c.every
      ∙ ap (λ (r : ℕ). start_of S k + i * r + offset_of c.widths j) c.apart ∙ sym p

  pub column-room : {room : ℕ} → shape_bits S ≤ room → (i : ℕ) → i < n → first + i * stride + w ≤ room
  column-room l i m = let e = place_end S k j i (column-has i m) in omega (arith, column-place i, column-width)

  pub column-rooms : {room far : ℕ} → shape_bits S ≤ room → shape_bits S < far → (i : ℕ) → i < n → (first + i * stride + w ≤ room)
      × (first + i * stride + w < far)
  column-rooms l f i m = (column-room l i m, let e = column-room {room = shape_bits S} (omega arith) i m in omega arith)

  -- rows are as far apart as the column is wide, or further
  pub column_fits : w ≤ stride
  column_fits = rw (← c.apart, ← c.wide) (entry-le c.widths j)

  pub column-small : (v : Values) → Fits S v → (i : ℕ) → i < n → v k j i < 2 ^ w
  column-small v fits i l = rw column-width at (fits k j i (column-has i l))

  -- put among the columns of the record
  pub column-written : (v : Values) → Fits S v → {put : ℕ → ℕ → Bool} {old mid out : List ℕ} {x : ℕ → ℕ} → Written S v put old mid
      → PutColumn mid n (λ i. true) (λ i. first + i * stride) w x out
      → ((i : ℕ) → i < n → v k j i ≡ x i) → Written S v (and put k j) old out
  column-written v fits r p e = written-column S v fits k j r p column-among column-rows column-width column-there (λ i l t. column-place i) e

-- a field of a head, which has one row
pub head-written : {S : List Section} {k j p stride w : ℕ} → Column S k j 1 p stride w → (v : Values) → Fits S v
    → {put : ℕ → ℕ → Bool} {old mid out : List ℕ} {x : ℕ} → Written S v put old mid → Put mid p w x out
    → v k j 0 ≡ x → Written S v (and put k j) old out
head-written {S} {k} {j} {p} {stride} c v fits {x = x} r q e =
    written-column S v fits k j r (column-one q) (column-among c) (column-rows c) (column-width c) (column-there c) (λ i l t. at i l) (λ i l. same i l)
  where
    zeroth : (i : ℕ) → i < 1 → i ≡ 0
    zeroth i l = omega arith

    at : (i : ℕ) → i < 1 → place S k j i ≡ p
    at i l = let z = zeroth i l in let m : 0 * stride ≡ 0 = zero-mul stride in rw z (omega (arith, column-place c 0))

    same : (i : ℕ) → i < 1 → v k j i ≡ x
    same i l = rw (zeroth i l) e

-- the same column with a head before it
pub column-after : {S : List Section} {k j n first stride w : ℕ} (head : Section) (start : ℕ) → Column S k j n first stride w
    → section_bits head + first ≡ start → Column (head ∷ S) (suc k) j n start stride w
column-after head start c e = record {
  widths = c.widths;
  every = c.every;
  among = c.among;
  wide = c.wide;
  apart = c.apart;
  begins =
      omega (arith, c.begins);
}
