-- Document 01, "Record layouts": a record is a list of fields, packed into bytes.
use Rattle.std.specs.Prelude.{List, [], ◌∷◌, ◌++◌, ℕ, zero, suc, ◌+◌, ◌-◌, ◌*◌, ◌/◌, ◌%◌, ◌^◌, get_or}
use Rattle.lists.specs.Fold.{sum}
use Rattle.lists.specs.Table.{table}

-- so many bits, and the number that they spell
pub record Field : Type 0 where
  pub width : ℕ
  pub value : ℕ

abbrev pub field : ℕ → ℕ → Field
field w v = record { width = w; value = v }

-- the w bits of v, "most significant bit first"
unfoldable pub spelled : ℕ → ℕ → List ℕ
spelled zero v = []
spelled (suc w) v = v / 2 ^ w % 2 ∷ spelled w v

-- the bits of fields one after another
unfoldable pub bits_of : List Field → List ℕ
bits_of [] = []
bits_of (f ∷ fs) = spelled f.width f.value ++ bits_of fs

-- how many bits they are
unfoldable pub width_of : List Field → ℕ
width_of [] = 0
width_of (f ∷ fs) = f.width + width_of fs

-- the whole bytes that hold n bits
unfoldable pub bytes_for : ℕ → ℕ
bytes_for n = (n + 7) / 8

-- byte j of a list of bits: its eight bits from 8 j on, the first counting 128; a bit past the end is 0
unfoldable pub octet : List ℕ → ℕ → ℕ
octet bits j = sum 8 (λ k. get_or bits (8 * j + k) 0 * 2 ^ (7 - k))

-- the bytes of a record: its bits, and "zero bits up to a whole byte"
unfoldable pub packed : List Field → List ℕ
packed fs = table (bytes_for (width_of fs)) (λ j. octet (bits_of fs) j)

-- "per cell" and "per face": g 0, .., g (n - 1) one after another
unfoldable pub rows : ℕ → (ℕ → List Field) → List Field
rows zero g = []
rows (suc n) g = rows n g ++ g n
