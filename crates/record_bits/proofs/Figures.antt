-- Document 01, "Record layouts": its two examples, packed and read; and the bytes that some fields touch.
use mathlib.Core.Path.{◌≡◌, refl}
use mathlib.Core.List.{[], ◌∷◌}
use Rattle.lists.specs.Fold.{sum}
use Rattle.lists.specs.Table.{table}
use Rattle.record_bits.specs.Field.{bit_at, bits_at}
use Rattle.record_bits.specs.Touched.{touched}
use Rattle.record_bits.specs.Layout.{field, spelled, bits_of, width_of, bytes_for, octet, packed, rows}

-- one cell of V 100 and no faces
pub one_cell : packed (field 4 1 ∷ field 12 1 ∷ field 13 0 ∷ field 3 0 ∷ rows 1 (λ i. field 12 100 ∷ [])) ≡ 0x10 ∷ 0x01 ∷ 0x00 ∷ 0x00 ∷ 0x06 ∷ 0x40 ∷ []
unfolding packed table octet sum spelled bits_of width_of bytes_for rows
one_cell = refl

-- its field with m = 99
pub its-field : packed (field 4 2 ∷ field 12 1 ∷ rows 1 (λ i. field 32 99 ∷ [])) ≡ 0x20 ∷ 0x01 ∷ 0x00 ∷ 0x00 ∷ 0x00 ∷ 0x63 ∷ []
unfolding packed table octet sum spelled bits_of width_of bytes_for rows
its-field = refl

pub its-volume : bits_at (0x10 ∷ 0x01 ∷ 0x00 ∷ 0x00 ∷ 0x06 ∷ 0x40 ∷ []) 32 12 ≡ 100
unfolding bits_at bit_at
its-volume = refl

pub its-mass : bits_at (0x20 ∷ 0x01 ∷ 0x00 ∷ 0x00 ∷ 0x00 ∷ 0x63 ∷ []) 16 32 ≡ 99
unfolding bits_at bit_at
its-mass = refl

-- 40 bits in whole bytes and askew, two bits across a byte's end, and none
pub touched-some : (touched 32 40 ≡ 5) × (touched 31 40 ≡ 6) × (touched 7 2 ≡ 2) × (touched 7 0 ≡ 0)
unfolding touched
touched-some = (refl, refl, refl, refl)
