-- Numbers of a turn, of a reader's by bytes and of a writer's by pieces: small, and in the list.
use Prim.Native.Nat.{ℕ, ◌+◌, ◌-◌, ◌*◌, ◌/◌, ◌%◌, ◌^◌, ◌≤◌, ◌<◌, min}
use mathlib.Core.Path.{◌≡◌}
use mathlib.Core.Logic.{◌≢◌}
use native.Mathlib.Omega.{arith}
use mir.Val.{Fits}
use mir.Syntax.{w64}
use Rattle.record_bits.specs.Field.{widest}

pub width_some : {w : ℕ} → w ≢ 0 → 0 < w
width_some h = omega (arith, h)

-- how far a field ends above the lowest bit of its last byte
pub below-small : (m : ℕ) → 7 - m < 64
below-small m = omega arith

pub byte-start : (at : ℕ) → at / 8 * 8 ≤ at
byte-start at = omega arith

-- a field of w bits from bit `at` on, and the bytes that it touches
module _ (at w : ℕ) (few : w ≤ 57) (some : 0 < w) where
  pub width_small : w < 64
  width_small = omega arith

  module _ (n : ℕ) (held : at + w ≤ 8 * n) (small : at + w < 2 ^ 64) (far : 7 ≤ (at + w - 1) / 8) where
    pub eight-in : (at + w - 1) / 8 - 7 + 8 ≤ n
    eight-in = omega arith

    pub eight-small : (at + w - 1) / 8 - 7 + 8 < 2 ^ 64
    eight-small = omega arith

  pub eight-end : 7 ≤ (at + w - 1) / 8 → (at + w - 1) / 8 - 7 + 8 ≡ (at + w - 1) / 8 + 1
  eight-end l = omega arith

  pub eight-start : ((at + w - 1) / 8 - 7) * 8 ≤ at
  eight-start = omega arith

  module _ {k : ℕ} (turn : k < (at + w - 1) / 8 + 1 - at / 8) where
    pub next_small : Fits w64 (k + 1)
    next_small = record { fits = omega arith }

    pub byte_small : at + w < 2 ^ 64 → at / 8 + k < 2 ^ 64
    byte_small g = omega arith

    pub byte-in : (n : ℕ) → at + w ≤ 8 * n → at / 8 + k < n
    byte-in n l = omega arith

    pub turns-few : k < 8
    turns-few = omega arith

-- `done` bits of it are written, and n more are: up to the end of a byte, or all that are left
module _ (at w done n : ℕ) (turn : done < w) (few : w ≤ widest) (e : n ≡ min (8 - (at + done) % 8) (w - done)) where
  pub piece-fits : n ≤ w - done
  piece-fits = omega arith

  pub piece-small : n < 64
  piece-small = omega arith

  pub piece-in-byte : (at + done) % 8 + n ≤ 8
  piece-in-byte = omega arith

  pub rest-small : w - done - n < 64
  rest-small = omega arith

  pub done-small : Fits w64 (done + n)
  done-small = record { fits = omega arith }

  pub done-within : done + n ≤ w
  done-within = omega arith

  pub done-less : w - (done + n) < w - done
  done-less = omega arith
