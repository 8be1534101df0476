-- A sign and a size read as one number, and three of these as one.
use mathlib.Core.Path.{◌≡◌, ap, ◌∙◌}
use mathlib.Core.List.{List}
use Prim.Native.Nat.{ℕ, zero, suc, ◌+◌, ◌*◌, ◌/◌, ◌%◌, ◌^◌, ◌<◌}
use native.Mathlib.Nat.{add-mul}
use native.Mathlib.Omega.{arith}
use borrow.Author.Tests.{le-leb, lt-leb}
use lib.Dec.{eqb, leb}
use lib.IntN.{ℤ}
use lib.ListN.{length, set}
use lib.Pow.{low}
use Rattle.lists.specs.Table.{table, over}
use Rattle.lists.proofs.Tables.{over-step}
use Rattle.signed.specs.Sign.{with_sign}
use Rattle.record_bits.specs.Field.{bits_at}
use Rattle.record_bits.proofs.Fields.{bits-lt, bits-split}
use Rattle.record_bits.proofs.Bytes.{three-within}
use Rattle.record_sections.specs.Codes.{coded}

-- a number of a sign and a size below u is u or more where the sign is 1
sign-is : (s u z : ℕ) → s < 2 → z < u → leb u (s * u + z) ≡ eqb s 1
sign-is zero u z l m = lt-leb u (zero * u + z) (omega arith)
sign-is (suc zero) u z l m = le-leb u (suc zero * u + z) (omega arith)
sign-is (suc (suc s)) u z l m = absurd (omega arith)

pub code_is : (bs : List ℕ) (at w : ℕ) {x : ℕ} → x ≡ bits_at bs at (1 + w) → coded w x ≡ with_sign (eqb (bits_at bs at 1) 1) (bits_at bs (at + 1) w)
unfolding coded
code_is bs at w e =
    rw (
      e,
      bits-split bs at 1 w,
      sign-is (bits_at bs at 1) (2 ^ w) (bits_at bs (at + 1) w) (bits-lt bs at 1) (bits-lt bs (at + 1) w),
      low (bits_at bs at 1) w (bits-lt bs (at + 1) w),
    )

-- a reader's turn with three entries: those below i are read
module _ (bs : List ℕ) (first w i : ℕ) (ys : List ℤ) (room : i + 2 < length ys) where
  abbrev row : ℕ → ℤ
  row k = with_sign (eqb (bits_at bs (first + k * (1 + w)) 1) 1) (bits_at bs (first + k * (1 + w) + 1) w)

  pub three-turn : {x : ℕ} {zs : List ℤ} → x ≡ bits_at bs (first + i * (1 + w)) (3 * (1 + w))
      → zs ≡ over (table i row) ys
      → set (set (set zs i (coded w (x / 2 ^ (2 * (1 + w)) % 2 ^ (1 + w)))) (i + 1) (coded w (x / 2 ^ (1 + w) % 2 ^ (1 + w)))) (i + 2)
      (coded w (x / 2 ^ 0 % 2 ^ (1 + w)))
      ≡ over (table (i + 3) row) ys
  three-turn {x} {zs} e d =
      let t = three-within bs (first + i * (1 + w)) (1 + w) e in
      let p : first + i * (1 + w) + (1 + w) ≡ first + (i + 1) * (1 + w) = omega (arith, add-mul i 1 (1 + w)) in
      let q : first + i * (1 + w) + 2 * (1 + w) ≡ first + (i + 2) * (1 + w) = omega (arith, add-mul i 2 (1 + w)) in
      let two : i + 1 + 1 ≡ i + 2 = omega arith in
      let three : i + 2 + 1 ≡ i + 3 = omega arith in
      let a = over-step row ys i (omega arith) d (code_is bs (first + i * (1 + w)) w t.0) in
      let b = over-step row ys (i + 1) (omega arith) a (code_is bs (first + (i + 1) * (1 + w)) w (t.1 ∙ ap (λ (n : ℕ). bits_at bs n (1 + w)) p)) in
      let c = over-step row ys (i + 2) room (b ∙ ap (λ (n : ℕ). over (table n row) ys) two)
      (code_is bs (first + (i + 2) * (1 + w)) w (t.2 ∙ ap (λ (n : ℕ). bits_at bs n (1 + w)) q)) in
      c ∙ ap (λ (n : ℕ). over (table n row) ys) three
