-- What a head's field, a column and the filling bits ask of the bytes, where some of a record's columns have been put; and that the record is
-- written when all are.
use Prim.Native.Nat.{ℕ, ◌+◌, ◌-◌, ◌*◌, ◌^◌, ◌≤◌, ◌<◌}
use mathlib.Core.Path.{◌≡◌, ap, ◌∙◌}
use mathlib.Core.Bool.{Bool, true}
use mathlib.Core.List.{List}
use native.Mathlib.Omega.{arith}
use lib.ListN.{length, get_or}
use Rattle.record_bits.specs.Field.{widest}
use Rattle.record_bits.specs.Layout.{bytes_for}
use Rattle.record_bits.specs.Put.{Put}
use Rattle.record_bits.proofs.Layouts.{bytes-hold}
use Rattle.record_sections.specs.Sections.{Section, Values, Fits, shape_bits, record_of}
use Rattle.record_sections.proofs.Columns.{Written, covers, written_all}
use Rattle.record_sections.proofs.Bodies.{Column, column-rooms, column_fits, column-small}
use Rattle.record_layouts.specs.Layouts.{release_bits, step_shape, step_bits}
use Rattle.record_putting.specs.Putting.{Wrote}
use Rattle.record_layouts.proofs.Layouts.{mass-most, release_place, release-wide, step_is, releases-in}

-- bytes that hold a record with a head of so many bits; its places are far below 2^64
pub record Room (S : List Section) (head : ℕ) (bs : List ℕ) : Type 0 where
  pub short : head ≤ widest
  pub some : head ≤ shape_bits S
  pub enough : bytes_for (shape_bits S) ≤ length bs
  pub small : shape_bits S < 2 ^ 32

pub held : {S : List Section} {head : ℕ} {bs : List ℕ} → Room S head bs → shape_bits S ≤ 8 * length bs
held {S} h = omega (arith, bytes-hold (shape_bits S), h.enough)

module _ {S : List Section} {head : ℕ} {bs : List ℕ} (h : Room S head bs) {v : Values} {put : ℕ → ℕ → Bool} {out : List ℕ} (r : Written S v put bs out) where
  pub field-asks : (at w x : ℕ) → at + w ≤ head → x < 2 ^ w → (at + w ≤ 8 * length out) × (at + w < 2 ^ 64) × (w ≤ widest) × (x < 2 ^ w)
  field-asks at w x l m = (omega (arith, r.same_length, h.some, held h), omega (arith, h.short), omega (arith, h.short), m)

  module _ {k j n first stride w : ℕ} (c : Column S k j n first stride w) where
    pub rooms : (i : ℕ) → i < n → (first + i * stride + w ≤ 8 * length out) × (first + i * stride + w < 2 ^ 64)
    rooms = column-rooms c (omega (arith, r.same_length, held h)) (omega (arith, h.small))

    pub column-asks : Fits S v → (xs : List ℕ) → w ≤ widest → n ≤ length xs → ((i : ℕ) → i < n → v k j i ≡ get_or xs i 0)
        → ((w ≤ widest) × (w ≤ stride) × (n ≤ length xs))
        × (((i : ℕ) → i < n → (first + i * stride + w ≤ 8 * length out) × (first + i * stride + w < 2 ^ 64)) × ((i : ℕ) → i < n → get_or xs i 0 < 2 ^ w))
    column-asks fits xs a b e = ((a, column_fits c, b), (rooms, λ i l. rw (← e i l) (column-small c v fits i l)))

  -- the end: all columns are put up to the bit that the code reckons, and the last byte is filled with zero bits
  module _ {at : ℕ} (e : at ≡ shape_bits S) where
    pub pad-asks : (bytes_for at ≤ length out) × (at + 8 < 2 ^ 64)
    pad-asks = rw e (rw r.same_length h.enough, omega (arith, h.small))

    pub put_whole : covers S put ≡ true → {end : List ℕ} {n : ℕ} → ((j : ℕ) → get_or bs j 0 < 256) → ((j : ℕ) → get_or end j 0 < 256)
        → (n ≡ bytes_for at) × Put out at (8 * bytes_for at - at) 0 end → Wrote bs (record_of S v) (bytes_for (shape_bits S)) end n
    put_whole all small-old small-end padded = record {
      takes = padded.0 ∙ ap bytes_for e;
      written = written_all S v r all e (rw e (omega (arith, bytes-hold (shape_bits S)))) h.enough small-old small-end padded.1;
    }

-- a step's releases, at the place and of the width that the code reckons, and the place after the last of them
module _ (kind cells faces : ℕ) (seconds : List ℕ) {p w : ℕ} (e : p ≡ release_place kind faces seconds) (d : w ≡ release_bits kind) where
  pub releases-put : Column (step_shape kind cells faces seconds) 3 0 cells p w w
  releases-put = rw d (releases-in kind cells faces seconds e)

  pub release-short : w ≤ widest
  release-short = omega (arith, d, release-wide kind, mass-most kind)

  pub step_ends : p + cells * w ≡ step_bits kind cells faces seconds
  step_ends = rw d (omega (arith, e, step_is kind cells faces seconds))
