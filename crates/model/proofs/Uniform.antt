-- Where every cell and every inflow has the same concentration, no mass changes; nor does one where there are no faces.
use Prim.Native.Nat.{ℕ, ◌+◌, ◌*◌, ◌/◌, ◌<◌}
use mathlib.Core.Path.{◌≡◌, refl, ap, ◌∙◌}
use mathlib.Core.Bool.{Bool, true, false, cond, ◌||◌}
use native.Mathlib.Nat.{zero-mul, mul-zero, zero-div}
use native.Mathlib.Omega.{arith}
use lib.Dec.{eqb}
use lib.IntN.{ℤ, pos, neg_ℤ, ◌*ℤ◌, ◌-ℤ◌}
use lib.Signed.{quot_z}
use Rattle.signed.specs.Sign.{size, is_zero, is_negative}
use Rattle.signed.proofs.Laws.{size-mul, size-quot, size-zero, diff-self}
use Rattle.lists.specs.Fold.{sum}
use Rattle.lists.proofs.Tests.{Same, other, same?, cond_same}
use Rattle.lists.proofs.Sums.{sum-cong, sum-scale, sum_zeros, sum-zero}
use Rattle.model.specs.Mesh.{Mesh, first, second, reach, at_rim, rim, entering, leaving, incoming, outgoing, updated}
use Rattle.model.specs.Step.{StepInput, flux, outside, mass, concentration, beyond, upwind, downwind, upwind_share, carried, low, correction, low_concentration, kept, adjacent, max_gain, max_loss, limited, moved, next}
use Rattle.model.proofs.Turned.{opposite, outgoing-turned}
use Rattle.model.proofs.Low.{met-any, entering-carried, outgoing-carried, low-is}
use Rattle.model.proofs.Limit.{limited-zero, kept-zero}
use Rattle.model.proofs.Next.{next_is}
use Rattle.model.specs.Accepted.{Sound}

-- amounts of 0 bring nothing and take nothing
nothing : (s t : Bool) → cond s 0 0 + cond t 0 0 ≡ 0
nothing s t = rw (cond_same {A = ℕ} s 0, cond_same {A = ℕ} t 0)

none-enters : (M : Mesh) (x : ℕ → ℤ) → ((f : ℕ) → f < M.faces → x f ≡ pos 0) → (c : ℕ) → incoming M x c ≡ 0
unfolding incoming entering
none-enters M x z c = sum-cong M.faces (entering M x c) (λ f. 0) (λ f l. rw (z f l) (nothing (eqb (second M f) c) (eqb (first M f) c)))
    ∙ sum_zeros M.faces

still : (M : Mesh) (x : ℕ → ℤ) → ((f : ℕ) → f < M.faces → x f ≡ pos 0) → (c : ℕ) → (incoming M x c ≡ 0) × (outgoing M x c ≡ 0)
still M x z c = (none-enters M x z c, outgoing-turned M x c ∙ none-enters M (opposite x) (λ f l. ap neg_ℤ (z f l)) c)

no_difference : (u w : ℤ) (k : ℕ) (K : ℕ) → quot_z (u *ℤ (pos k -ℤ pos k) *ℤ w) (pos K) ≡ pos 0
no_difference u w k K = size-zero _ (size-quot (u *ℤ (pos k -ℤ pos k) *ℤ w) K ∙ ap (λ (n : ℕ). n / K) none ∙ zero-div K)
  where
    none : size (u *ℤ (pos k -ℤ pos k) *ℤ w) ≡ 0
    none = size-mul (u *ℤ (pos k -ℤ pos k)) w ∙ ap (λ (n : ℕ). n * size w)
        (size-mul u (pos k -ℤ pos k) ∙ ap (λ (z : ℤ). size u * size z) (diff-self k) ∙ mul-zero (size u)) ∙ zero-mul (size w)

module _ (S : StepInput) (ok : Sound S) (q₀ : ℕ) (alike : (c : ℕ) → c < S.mesh.cells → concentration S c ≡ q₀)
    (outside-alike : (f : ℕ) → f < S.mesh.faces → second S.mesh f ≡ rim → is_negative (flux S f) ≡ true → outside S f ≡ q₀) where
  open S use {mesh as M}

  met-alike : (c f : ℕ) → c < M.cells → f < M.faces → adjacent S c f ≡ q₀
  met-alike c f h l = met-any (λ q. q ≡ q₀) S c f (alike c h) (alike (first M f) (ok.joined.first-in f l)) (outside-alike f l)
      (λ d. alike (second M f) (ok.joined.second_in f l d))

  incoming-alike : (c : ℕ) → c < M.cells → incoming M (carried S) c ≡ incoming M (flux S) c * q₀
  unfolding incoming
  incoming-alike c h = sum-cong M.faces (entering M (carried S) c) (λ f. entering M (flux S) c f * q₀)
      (λ f l. entering-carried S c f (omega (arith, ok.joined.few)) ∙ ap (λ (q : ℕ). entering M (flux S) c f * q) (met-alike c f h l))
      ∙ sum-scale M.faces q₀ (entering M (flux S) c)

  low_same : (c : ℕ) → c < M.cells → low S c ≡ mass S c
  low_same c h = omega (
    arith,
    low-is S ok c h,
    incoming-alike c h,
    outgoing-carried S ok c h,
    ap (λ (q : ℕ). outgoing M (flux S) c * q) (alike c h),
    ap (λ (u : ℕ). u * q₀) (ok.level c h),
  )

  correction_none : (f : ℕ) → f < M.faces → correction S f ≡ pos 0
  unfolding correction upwind downwind beyond
  correction_none f l = go (at_rim M f) (same? (second M f) rim) (is_zero (flux S f)) (is_negative (flux S f))
    where
      go : (r : Bool) → Same (second M f) rim r → (z n : Bool)
          → cond (r || z) (pos 0)
          (quot_z (flux S f *ℤ (pos (cond n (concentration S (first M f)) (cond r (outside S f) (concentration S (second M f))))
          -ℤ pos (cond n (cond r (outside S f) (concentration S (second M f))) (concentration S (first M f))))
          *ℤ (pos (upwind_share S f * reach M f) -ℤ pos (128 * size (flux S f)))) (pos (256 * reach M f)))
          ≡ pos 0
      go true s z n = refl
      go false s true n = refl
      go false (other d) false true = rw (alike (second M f) (ok.joined.second_in f l d), alike (first M f) (ok.joined.first-in f l))
          (no_difference (flux S f) _ q₀ (256 * reach M f))
      go false (other d) false false = rw (alike (second M f) (ok.joined.second_in f l d), alike (first M f) (ok.joined.first-in f l))
          (no_difference (flux S f) _ q₀ (256 * reach M f))

  limited-none : (f : ℕ) → f < M.faces → limited S f ≡ pos 0
  unfolding limited kept
  limited-none f l = limited-zero M (max_gain S) (max_loss S) (kept S) f (kept-zero M (low_concentration S) (correction S) f (correction_none f l))

  pub uniform : (c : ℕ) → c < M.cells → next S c ≡ mass S c
  uniform c h = omega (arith, next_is S ok c h, low_same c h, still M (limited S) limited-none c)

-- no faces, no change
pub no-faces : (S : StepInput) → S.mesh.faces ≡ 0 → (c : ℕ) → next S c ≡ mass S c
unfolding next updated incoming outgoing
no-faces S e c = omega (
  arith,
  ap (λ (n : ℕ). sum n (entering S.mesh (moved S) c)) e,
  sum-zero (entering S.mesh (moved S) c),
  ap (λ (n : ℕ). sum n (leaving S.mesh (moved S) c)) e,
  sum-zero (leaving S.mesh (moved S) c),
)
