-- Document 01, "One step", stage 2, for one face, and the one number in which a pass keeps a correction.
use Rattle.std.specs.Prelude.{ℕ, ◌-◌, ◌*◌, ◌/◌, ◌%◌, cond, eqb, ℤ, pos, ◌-ℤ◌, ◌*ℤ◌}
use Rattle.std.specs.Int.Signed.{quot_z}
use Rattle.signed.specs.Sign.{size, is_negative, with_sign}

-- Stage 2: U·d·(t·K - 128·|U|) of an interior face with flux z, share s and reach k, between concentrations a of its first and b of its second cell
abbrev pub product_of : ℤ → ℕ → ℕ → ℕ → ℕ → ℤ
product_of z a b s k =
    z *ℤ (pos (cond (is_negative z) a b) -ℤ pos (cond (is_negative z) b a)) *ℤ (pos (cond (is_negative z) (256 - s) s * k) -ℤ pos (128 * size z))

-- its correction
unfoldable pub correction_of : ℤ → ℕ → ℕ → ℕ → ℕ → ℤ
correction_of z a b s k = quot_z (product_of z a b s k) (pos (256 * k))

-- a correction in one entry: its size times this, and one more where it is below 0; a size of 0 is 0 under either
abbrev pub over_sign : ℕ
over_sign = 4

abbrev pub decoded : ℕ → ℤ
decoded n = with_sign (eqb (n % 2) 1) (n / over_sign)
