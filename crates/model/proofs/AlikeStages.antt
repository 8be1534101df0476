-- Two steps that are alike: stage after stage each quantity is the other's at the new number, a face's turned with it. Both sides of a face
-- go together.
use Prim.Native.Nat.{ℕ, ◌-◌, ◌*◌, ◌/◌, ◌≤◌, ◌<◌}
use mathlib.Core.Path.{◌≡◌, refl, sym, ap, ap₂, ◌∙◌}
use mathlib.Core.Logic.{◌≢◌}
use mathlib.Core.Bool.{Bool, true, false, cond, ◌||◌, true≢false}
use native.Mathlib.Omega.{arith}
use borrow.Author.Tests.{eq-eqb, ne_eqb}
use lib.Dec.{eqb}
use lib.IntN.{ℤ, pos, ◌-ℤ◌, ◌*ℤ◌}
use lib.Signed.{quot_z}
use Rattle.lists.specs.Fold.{sum, least, greatest}
use Rattle.lists.proofs.Tests.{Same, same, other, same?}
use Rattle.signed.specs.Sign.{is_negative, is_zero, size, forward, backward, turn}
use Rattle.model.specs.Mesh.{Mesh, first, second, share, reach, at_rim, rim, max_share}
use Rattle.model.specs.Step.{StepInput, flux, outside, mass, concentration, beyond, upwind, downwind, carried, low, upwind_share, correction, low_concentration, kept, adjacent, lo, hi, max_gain, max_loss, limited, moved, next, in_mass, out_mass}
use Rattle.model.specs.Accepted.{Joined, MeshFit}
use Rattle.model.proofs.Limit.{kept_either}
use Rattle.lists.specs.Renumbering.{Renumbering}
use Rattle.model.specs.Alike.{Facing, straight, turned, AlikeEnds, Alike}
use Rattle.lists.proofs.Renumbered.{sum-renumbered, least-renumbered, greatest-renumbered}
use Rattle.signed.proofs.Turns.{size-turn, is_zero-turn, turn-zero, turn-add, turn-mul, turn-quot, turn-carries, turn-negative}
use Rattle.model.proofs.AlikeFaces.{rim-same, first-is, second_is, updated-alike, kept-alike, limited-alike}

pub joined : (M : Mesh) → M.cells ≤ rim → MeshFit M → Joined M
joined M few fit = record { few = few; first-in = fit.first-in; second_in = fit.second_in }

-- the correction at a face, n near and b beyond, of share w and reach K
correct : ℤ → ℕ → ℕ → ℕ → ℕ → ℤ
correct z n b w K =
    quot_z (z *ℤ (pos (cond (is_negative z) n b) -ℤ pos (cond (is_negative z) b n)) *ℤ (pos (cond (is_negative z) (256 - w) w * K) -ℤ pos (128 * size z)))
    (pos (256 * K))

correct-turned : (t : Bool) (z : ℤ) (n b w K : ℕ) → w ≤ max_share → is_zero z ≡ false → correct (turn t z) (cond t b n) (cond t n b) (cond t (256 - w) w) K
    ≡ turn t (correct z n b w K)
unfolding correct
correct-turned t z n b w K h e =
    rw (
      turn-negative t z n b e,
      turn-negative t z b n e,
      heavy t,
      turn-negative t z (256 - w) w e,
      size-turn t z,
      turn-mul t z (pos (cond (is_negative z) n b) -ℤ pos (cond (is_negative z) b n)),
    )
    (rw (turn-mul t (z *ℤ (pos (cond (is_negative z) n b) -ℤ pos (cond (is_negative z) b n))) (pos (cond (is_negative z) (256 - w) w * K) -ℤ pos (128 * size z)))
    (turn-quot t _ (256 * K)))
  where
    heavy : (t : Bool) → 256 - cond t (256 - w) w ≡ cond t w (256 - w)
    heavy true = omega arith
    heavy false = refl

module _ (S S' : StepInput) (few : S.mesh.cells ≤ rim) (fit : MeshFit S.mesh) (cell : Renumbering S.mesh.cells) (face : Renumbering S.mesh.faces)
    (turns : ℕ → Bool)
    (a : Alike S S' cell face turns) where
  open S use {mesh as M}
  open S' use {mesh as M'}

  j : Joined M
  j = joined M few fit

  abbrev ends : AlikeEnds M M' cell face turns
  ends = a.mesh_alike.ends_alike

  at-rim : (f : ℕ) → f < M.faces → at_rim M' (face.new f) ≡ at_rim M f
  at-rim = rim-same M M' j cell face turns ends

  -- the two sides of a face
  near-alike : (f : ℕ) → f < M.faces → concentration S' (first M' (face.new f)) ≡ cond (turns f) (beyond S f) (concentration S (first M f))
  unfolding beyond
  near-alike f l = go (turns f) (ends.facing f l)
    where
      go : (t : Bool) → Facing M M' cell.new f (face.new f) t
          → concentration S' (first M' (face.new f)) ≡ cond t (cond (at_rim M f) (outside S f) (concentration S (second M f))) (concentration S (first M f))
      go false (straight p q) = rw p (a.q_same (first M f) (fit.first-in f l))
      go true (turned d p q) = rw (p, ne_eqb (second M f) rim d) (a.q_same (second M f) (fit.second_in f l d))

  far-alike : (f : ℕ) → f < M.faces → second M f ≢ rim → concentration S' (second M' (face.new f))
      ≡ cond (turns f) (concentration S (first M f)) (concentration S (second M f))
  far-alike f l d = go (turns f) (ends.facing f l)
    where
      go : (t : Bool) → Facing M M' cell.new f (face.new f) t
          → concentration S' (second M' (face.new f)) ≡ cond t (concentration S (first M f)) (concentration S (second M f))
      go false (straight p q) = rw (q, ne_eqb (second M f) rim d) (a.q_same (second M f) (fit.second_in f l d))
      go true (turned _ p q) = rw q (a.q_same (first M f) (fit.first-in f l))

  beyond-alike : (f : ℕ) → f < M.faces → beyond S' (face.new f) ≡ cond (turns f) (concentration S (first M f)) (beyond S f)
  unfolding beyond
  beyond-alike f l = rw (at-rim f l, a.outside_same f l) (go (turns f) (ends.facing f l) (at_rim M f) (same? (second M f) rim))
    where
      go : (t : Bool) → Facing M M' cell.new f (face.new f) t → (r : Bool) → Same (second M f) rim r
          → cond r (outside S f) (concentration S' (second M' (face.new f)))
          ≡ cond t (concentration S (first M f)) (cond r (outside S f) (concentration S (second M f)))
      go false g true s = refl
      go false (straight p q) false (other d) = rw (q, ne_eqb (second M f) rim d) (a.q_same (second M f) (fit.second_in f l d))
      go true (turned d p q) true (same e) = absurd (d e)
      go true (turned d p q) false s = rw q (a.q_same (first M f) (fit.first-in f l))

  pub carried-alike : (f : ℕ) → f < M.faces → carried S' (face.new f) ≡ turn (turns f) (carried S f)
  unfolding carried upwind
  carried-alike f l = rw (a.flux_same f l, near-alike f l, beyond-alike f l) (turn-carries (turns f) (flux S f) (concentration S (first M f)) (beyond S f))

  pub low_alike : (c : ℕ) → c < M.cells → low S' (cell.new c) ≡ low S c
  unfolding low
  low_alike = updated-alike M M' j cell face turns ends (carried S) (carried S') carried-alike (mass S) (mass S') a.mass_same

  -- stage 2
  pub correction-alike : (f : ℕ) → f < M.faces → correction S' (face.new f) ≡ turn (turns f) (correction S f)
  unfolding correction upwind downwind upwind_share correct
  correction-alike f l =
      rw (
        at-rim f l,
        a.flux_same f l,
        near-alike f l,
        beyond-alike f l,
        a.mesh_alike.share_same f l,
        a.mesh_alike.reach_same f l,
        is_zero-turn (turns f) (flux S f),
      )
      (go (at_rim M f) (is_zero (flux S f)) refl)
    where
      go : (r b : Bool) → is_zero (flux S f) ≡ b
          → cond (r || b) (pos 0) (correct (turn (turns f) (flux S f)) (cond (turns f) (beyond S f) (concentration S (first M f)))
          (cond (turns f) (concentration S (first M f)) (beyond S f))
          (cond (turns f) (256 - share M f) (share M f)) (reach M f))
          ≡ turn (turns f) (cond (r || b) (pos 0) (correct (flux S f) (concentration S (first M f)) (beyond S f) (share M f) (reach M f)))
      go true b e = sym (turn-zero (turns f))
      go false true e = sym (turn-zero (turns f))
      go false false e = correct-turned (turns f) (flux S f) (concentration S (first M f)) (beyond S f) (share M f) (reach M f) (fit.share_most f l) e

  -- a correction that is not 0 is that of an interior face
  corrected-within : (f : ℕ) → is_zero (correction S f) ≡ false → second M f ≢ rim
  unfolding correction
  corrected-within f e d = true≢false (sym (rw (eq-eqb (second M f) rim d)) ∙ e)

  -- document 02's S-5
  pub low-concentration-alike : (c : ℕ) → c < M.cells → low_concentration S' (cell.new c) ≡ low_concentration S c
  unfolding low_concentration
  low-concentration-alike c h = ap₂ (λ (m v : ℕ). m / v) (low_alike c h) (a.mesh_alike.volume_same c h)

  pub kept-correction-alike : (f : ℕ) → f < M.faces → kept S' (face.new f) ≡ turn (turns f) (kept S f)
  unfolding kept
  kept-correction-alike f l = kept-alike M M' j cell face turns ends (correction S) (correction S') correction-alike
      (low_concentration S) (low_concentration S') low-concentration-alike f l (corrected-within f)

  kept-within : (f : ℕ) → is_zero (kept S f) ≡ false → second M f ≢ rim
  unfolding kept
  kept-within f = kept_either (λ z. is_zero z ≡ false → second M f ≢ rim) M (low_concentration S) (correction S) f (corrected-within f)
      (λ e. absurd (true≢false e))

  -- stage 3
  adjacent-alike : (c f : ℕ) → c < M.cells → f < M.faces → adjacent S' (cell.new c) (face.new f) ≡ adjacent S c f
  unfolding adjacent beyond
  adjacent-alike c f h l =
      rw (
        at-rim f l,
        first-is M M' j cell face turns ends f c l h,
        second_is M M' j cell face turns ends f c l h,
        a.flux_same f l,
        is_zero-turn (turns f) (flux S f),
        a.outside_same f l,
        a.q_same c h,
      )
      (go (concentration S c) (concentration S (first M f)) (concentration S (second M f)) (outside S f) _ _ (turns f) (ends.facing f l) (near-alike f l)
      (far-alike f l)
      (is_zero (flux S f)) (at_rim M f) (same? (second M f) rim) (eqb (first M f) c) (same? (first M f) c) (eqb (second M f) c) (same? (second M f) c))
    where
      go : (q n k o n' k' : ℕ) (t : Bool) → Facing M M' cell.new f (face.new f) t → n' ≡ cond t (cond (at_rim M f) o k) n
          → (second M f ≢ rim → k' ≡ cond t n k)
          → (z r : Bool) → Same (second M f) rim r → (s : Bool) → Same (first M f) c s → (u : Bool) → Same (second M f) c u
          → cond z q (cond (cond t u s) (cond r (cond (is_negative (turn t (flux S f))) o q) k') (cond (cond t s u) n' q))
          ≡ cond z q (cond s (cond r (cond (is_negative (flux S f)) o q) k) (cond u n q))
      go q n k o n' k' t g nn kk true r rr s ss u uu = refl
      go q n k o n' k' false g nn kk false true rr true ss u uu = refl
      go q n k o n' k' false g nn kk false false (other d) true ss u uu = kk d
      go q n k o n' k' false g nn kk false r rr false ss true uu = nn
      go q n k o n' k' false g nn kk false r rr false ss false uu = refl
      go q n k o n' k' true (turned d _ _) nn kk false true (same e) s ss u uu = absurd (d e)
      go q n k o n' k' true (turned d _ _) nn kk false false rr true (same x) true (same y) = absurd (fit.apart f l (x ∙ sym y))
      go q n k o n' k' true (turned d _ _) nn kk false false rr true ss false uu = nn ∙ rw (ne_eqb (second M f) rim d)
      go q n k o n' k' true (turned d _ _) nn kk false false rr false ss true uu = kk d
      go q n k o n' k' true (turned d _ _) nn kk false false rr false ss false uu = refl

  pub lo-alike : (c : ℕ) → c < M.cells → lo S' (cell.new c) ≡ lo S c
  unfolding lo
  lo-alike c h = ap (λ (n : ℕ). least n (concentration S' (cell.new c)) (adjacent S' (cell.new c))) ends.faces_same
      ∙ least-renumbered M.faces face (adjacent S' (cell.new c)) (adjacent S c) (λ f l. adjacent-alike c f h l) _ _ (a.q_same c h)

  pub hi-alike : (c : ℕ) → c < M.cells → hi S' (cell.new c) ≡ hi S c
  unfolding hi
  hi-alike c h = ap (λ (n : ℕ). greatest n (concentration S' (cell.new c)) (adjacent S' (cell.new c))) ends.faces_same
      ∙ greatest-renumbered M.faces face (adjacent S' (cell.new c)) (adjacent S c) (λ f l. adjacent-alike c f h l) _ _ (a.q_same c h)

  gain-alike : (c : ℕ) → c < M.cells → max_gain S' (cell.new c) ≡ max_gain S c
  unfolding max_gain
  gain-alike c h = rw (a.mesh_alike.volume_same c h, hi-alike c h, low_alike c h)

  loss-alike : (c : ℕ) → c < M.cells → max_loss S' (cell.new c) ≡ max_loss S c
  unfolding max_loss
  loss-alike c h = rw (a.mesh_alike.volume_same c h, lo-alike c h, low_alike c h)

  -- stages 4 and 5
  pub limit-alike : (f : ℕ) → f < M.faces → limited S' (face.new f) ≡ turn (turns f) (limited S f)
  unfolding limited
  limit-alike f l = limited-alike M M' j cell face turns ends (kept S) (kept S') kept-correction-alike
      (max_gain S) (max_gain S') (max_loss S) (max_loss S') gain-alike loss-alike f l (kept-within f)

  pub moved-alike : (f : ℕ) → f < M.faces → moved S' (face.new f) ≡ turn (turns f) (moved S f)
  unfolding moved
  moved-alike f l = rw (carried-alike f l, limit-alike f l) (turn-add (turns f) (carried S f) (limited S f))

  pub next-alike : (c : ℕ) → c < M.cells → next S' (cell.new c) ≡ next S c
  unfolding next
  next-alike = updated-alike M M' j cell face turns ends (moved S) (moved S') moved-alike (mass S) (mass S') a.mass_same

  -- in- and out-mass
  flux-at-rim : (f : ℕ) → f < M.faces → (g : ℤ → ℕ) → cond (at_rim M f) (g (turn (turns f) (flux S f))) 0 ≡ cond (at_rim M f) (g (flux S f)) 0
  flux-at-rim f l g = go (turns f) (ends.facing f l) (at_rim M f) (same? (second M f) rim)
    where
      go : (t : Bool) → Facing M M' cell.new f (face.new f) t → (r : Bool) → Same (second M f) rim r → cond r (g (turn t (flux S f))) 0
          ≡ cond r (g (flux S f)) 0
      go t x false s = refl
      go false x true s = refl
      go true (turned d _ _) true (same e) = absurd (d e)

  pub in-mass-alike : in_mass S' ≡ in_mass S
  unfolding in_mass
  in-mass-alike = ap (λ (n : ℕ). sum n (λ f. cond (at_rim M' f) (backward (flux S' f) * outside S' f) 0)) ends.faces_same
      ∙ sum-renumbered M.faces face _ _ (λ f l. rw (at-rim f l, a.flux_same f l, a.outside_same f l) (flux-at-rim f l (λ z. backward z * outside S f)))

  pub out-mass-alike : out_mass S' ≡ out_mass S
  unfolding out_mass
  out-mass-alike = ap (λ (n : ℕ). sum n (λ f. cond (at_rim M' f) (forward (flux S' f) * concentration S' (first M' f)) 0)) ends.faces_same
      ∙ sum-renumbered M.faces face _ _ (λ f l. rw (at-rim f l, a.flux_same f l) (at-rim-first f l))
    where
      at-rim-first : (f : ℕ) → f < M.faces
          → cond (at_rim M f) (forward (turn (turns f) (flux S f)) * concentration S' (first M' (face.new f))) 0
          ≡ cond (at_rim M f) (forward (flux S f) * concentration S (first M f)) 0
      at-rim-first f l = go (turns f) (ends.facing f l) (at_rim M f) (same? (second M f) rim)
        where
          go : (t : Bool) → Facing M M' cell.new f (face.new f) t → (r : Bool) → Same (second M f) rim r
              → cond r (forward (turn t (flux S f)) * concentration S' (first M' (face.new f))) 0 ≡ cond r (forward (flux S f) * concentration S (first M f)) 0
          go t x false s = refl
          go false (straight p q) true s = rw (p, a.q_same (first M f) (fit.first-in f l))
          go true (turned d _ _) true (same e) = absurd (d e)
