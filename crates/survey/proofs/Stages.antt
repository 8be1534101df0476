-- What the stages come to, by what their tests found.
use Prim.Native.Nat.{ℕ, ◌+◌, ◌≤◌, ◌<◌}
use mathlib.Core.Path.{◌≡◌, ap, ◌∙◌}
use mathlib.Core.Bool.{Bool, true, false}
use mathlib.Core.List.{List}
use lib.ListN.{get_or}
use lib.Ieee.{Float, nan}
use Rattle.model.specs.Causes.{accepted, refused, fine, each}
use Rattle.model.proofs.Verdicts.{scan-pass, scan-hit, scan-end}
use Rattle.survey_points.specs.Points.{coordinates, allowed}
use Rattle.survey.specs.Survey.{coordinates_verdict, bad_at, found_after, found, not_above, share, share_of}
use Rattle.survey_points.specs.declared.Face.{Face}

-- the coordinates below i are allowed
abbrev pub AllowedTo : Face → ℕ → Type 0
AllowedTo f i = each 19 i (λ k. allowed (get_or (coordinates f) k nan)) ≡ fine

module _ (f : Face) (values : List Float) (i : ℕ) {b : Bool} (e : values ≡ coordinates f) (v : AllowedTo f i) (q : b ≡ allowed (get_or values i nan)) where
  at_i : b ≡ allowed (get_or (coordinates f) i nan)
  at_i = q ∙ ap (λ (l : List Float). allowed (get_or l i nan)) e

  pub found-pass : b ≡ true → AllowedTo f (i + 1)
  found-pass t = scan-pass 19 (λ k. allowed (get_or (coordinates f) k nan)) i v at_i t

  pub found-bad : i < 8 → b ≡ false → bad_at i (get_or values i nan) ≡ found f
  unfolding found coordinates_verdict
  found-bad h t =
      ap (λ (l : List Float). bad_at i (get_or l i nan)) e
      ∙ ap (found_after f) (scan-hit 19 (λ k. allowed (get_or (coordinates f) k nan)) 8 i h v at_i t)

pub found-end : (f : Face) (i : ℕ) → i ≤ 8 → 8 ≤ i → AllowedTo f i → found_after f fine ≡ found f
unfolding found coordinates_verdict
found-end f i h k v = ap (found_after f) (scan-end 19 (λ j. allowed (get_or (coordinates f) j nan)) 8 i h k v)

-- a ratio below 1/256, one not below 1, and one between
module _ (r : Float) where
  pub ratio-below : not_above 1 r ≡ false → refused 20 0 ≡ share_of r
  unfolding share_of
  ratio-below e = rw e

  pub ratio-not-below : not_above 1 r ≡ true → not_above 256 r ≡ true → refused 20 0 ≡ share_of r
  unfolding share_of
  ratio-not-below e d = rw (e, d)

  pub ratio-between : not_above 1 r ≡ true → not_above 256 r ≡ false → {k : ℕ} → k ≡ share r → accepted k ≡ share_of r
  unfolding share_of
  ratio-between e d q = rw (e, d, q)
