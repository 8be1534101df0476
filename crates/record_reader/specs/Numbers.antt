-- Document 01, "Record layouts", the reader with its record and its bit: what it finds at the bit to which it has come.
use Rattle.std.specs.Prelude.{ℕ, ◌+◌, Bool, true, false, ◌&&◌, List, length, leb, Option, Some, None}
use Rattle.record_bits.specs.Field.{bits_at, widest}
use Rattle.record_bits.specs.Layout.{bytes_for}

-- the furthest bit that a reader goes to
abbrev pub furthest : ℕ
furthest = 4294967296

abbrev pub spelled_if : Bool → (Option ℕ) → (Option ℕ) → (Option ℕ)
spelled_if true a b = a
spelled_if false a b = b

-- the number that the field at a bit spells, where the record holds it
abbrev pub number_at : List ℕ → ℕ → ℕ → (Option ℕ)
number_at bs bit width = spelled_if (leb width widest && leb bit furthest && leb (bytes_for (bit + width)) (length bs)) (Some (bits_at bs bit width)) None

-- the number, or 0 where the record ends before it
abbrev pub spelled_number : Option ℕ → ℕ
spelled_number (Some n) = n
spelled_number None = 0
