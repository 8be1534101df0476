-- What the comparison of k / 256 with a ratio comes to, by the fractions that finite floats are.
use Prim.Native.Nat.{ℕ, ◌*◌, ◌^◌, ◌≤◌, ◌<◌}
use mathlib.Core.Path.{◌≡◌, refl, sym, ap, ◌∙◌, subst}
use mathlib.Core.Bool.{true, false, true≢false}
use native.Mathlib.Nat.{mul-one, mul_assoc, mul-pos, mul-le-mul_right, le_of_mul-le-mul_right, lt_of_le_of_lt}
use native.Mathlib.Omega.{arith}
use borrow.Author.Tests.{ne_eqb}
use lib.Dec.{T, eqb, leb, lit<}
use lib.IntN.{pos, negsuc}
use lib.Ieee.{Float, nan, inf, fin, binary64, up, down, lt, eq, le, mul, round, of_int}
use lib.Ieee.Exact.{HasValue, round_exact}
use lib.Ieee.Back.{round_whole}
use lib.Ieee.Fits.{down_pos}
use lib.Ieee.Positive.{positive, positive_of_value, mul_at}
use Rattle.survey_points.proofs.Floats.{leb-same, at_most, and-false}
use Rattle.survey.specs.Survey.{not_above}

-- 1 / 256, as the code has it
abbrev pub part : Float
part = fin false 1 (negsuc 7)

-- x / d is k / 256, so its order with y / e is that of k / 256
parts_same : (x d y e k : ℕ) → 0 < d → x * 256 ≡ k * d → leb (x * e) (y * d) ≡ leb (k * e) (256 * y)
parts_same x d y e k D q =
    let s : x * 256 * e ≡ k * d * e = ap (λ (z : ℕ). z * e) q in
    leb-same (x * e) (y * d) (k * e) (256 * y)
    (λ h. le_of_mul-le-mul_right {k = d} (omega (arith, s, h)) D)
    (λ h. omega (arith, s, mul-le-mul_right d h))

le-part : (x r : Float) (k : ℕ) → 1 ≤ k → HasValue x false k 256 → le x r ≡ not_above k r
unfolding le lt eq not_above
le-part nan r k K v = absurd v
le-part (inf s) r k K v = absurd v
le-part (fin true n d) r k K v = absurd (true≢false v.0)
le-part (fin false n d) nan k K v = refl
le-part (fin false n d) (inf true) k K v = refl
le-part (fin false n d) (inf false) k K v = refl
le-part (fin false n d) (fin false m e) k K v =
    at_most (n * up d * down e) (m * up e * down d) ∙ parts_same (n * up d) (down d) (m * up e) (down e) k (down_pos d) v.1
le-part (fin false n d) (fin true m e) k K v =
    rw (ne_eqb (n * up d * down e) 0 (λ z. omega (arith, z, v.1, mul-pos K (down_pos d), mul-pos some (down_pos e))))
    (and-false (eqb (n * up d * down e) (m * up e * down d)))
  where
    some : 0 < n * up d
    some = omega (arith, v.1, mul-pos K (down_pos d))

-- k / 256 as the code makes it has no rounding
part-value : (k : ℕ) → 1 ≤ k → k ≤ 256 → HasValue (mul binary64 (of_int binary64 (pos k)) part) false k 256
unfolding of_int
part-value k K most =
    let v : HasValue (round binary64 false k 1) false k 1 = round_whole binary64 false k (omega arith) in
    let e : k * 1 * 2 ^ 1074 ≡ k * 2 ^ 1066 * 256 = ap (λ (x : ℕ). x * 2 ^ 1074) (mul-one k) ∙ sym (mul_assoc k (2 ^ 1066) 256) in
    let r : HasValue (round binary64 false (k * 1) 256) false (k * 1) 256 =
    round_exact binary64 false (k * 1) 256 k 1066 (lit< tt) (omega arith) (lt_of_le_of_lt (mul-le-mul_right (2 ^ 1066) most) (lit< tt)) e in
    let some : T (positive (round binary64 false k 1)) = positive_of_value (round binary64 false k 1) k 1 v K in
    rw (mul_at binary64 (round binary64 false k 1) part k 1 1 256 some tt (lit< tt) (lit< tt) v (refl, refl))
    (subst (λ (j : ℕ). HasValue (round binary64 false (k * 1) 256) false j 256) (mul-one k) r)

pub part-not-above : (k : ℕ) (r : Float) → 1 ≤ k → k ≤ 256 → le (mul binary64 (of_int binary64 (pos k)) part) r ≡ not_above k r
part-not-above k r K most = le-part (mul binary64 (of_int binary64 (pos k)) part) r k K (part-value k K most)
