-- What the tests of values ask for, past those of lengths.
use Prim.Native.Nat.{ℕ, ◌≤◌}
use mathlib.Core.Path.{◌≡◌}
use mathlib.Core.List.{List, [], ◌∷◌}
use lib.IntN.{ℤ}
use lib.ListN.{length}
use Rattle.model.specs.Mesh.{mesh_of}
use Rattle.model.specs.Causes.{fine, water_of, counts}
use Rattle.model.specs.Accepted.{StepLent}
use Rattle.model.proofs.Verdicts.{both-fine, all-fine, long-fine}
use Rattle.model.proofs.Accepted.{counted}
use Rattle.cutting_causes.specs.Lengths.{three, lengths_found}

first_of : (position wanted a b c : ℕ) → three position wanted a b c ≡ fine → wanted ≤ a
first_of position wanted a b c e = long-fine _ _ _ (both-fine _ _ (both-fine _ _ e).0).0

pub step-lent : (cells faces : ℕ) (volumes firsts seconds shares reaches masses : List ℕ) (fluxes : List ℤ) (outsides releases labels : List ℕ)
    (v0 v1 f0 f1 s0 s1 h0 h1 k0 k1 m0 m1 u0 u1 o0 o1 r0 r1 : ℕ)
    → lengths_found cells faces (length volumes) v0 v1 (length firsts) f0 f1 (length seconds) s0 s1 (length shares) h0 h1 (length reaches) k0 k1
    (length masses) m0 m1 (length fluxes) u0 u1 (length outsides) o0 o1 (length releases) r0 r1 (length labels) ≡ fine
    → StepLent (mesh_of cells faces volumes firsts seconds shares reaches) masses (water_of fluxes outsides releases) × (cells ≤ length labels)
unfolding counts
step-lent cells faces volumes firsts seconds shares reaches masses fluxes outsides releases labels v0 v1 f0 f1 s0 s1 h0 h1 k0 k1 m0 m1 u0 u1 o0 o1 r0 r1 e =
    let p = both-fine _ _ e in
    let t = all-fine (_ ∷ _ ∷ _ ∷ _ ∷ _ ∷ _ ∷ _ ∷ _ ∷ _ ∷ _ ∷ []) p.1 in
    let later = t.1.1.1.1 in
    let last = later.1.1.1.1 in (
      record {
        counts_fit = counted (mesh_of cells faces volumes firsts seconds shares reaches) p.0;
        lent = record {
          volumes_long = first_of _ _ _ _ _ t.0;
          firsts_long = first_of _ _ _ _ _ t.1.0;
          seconds_long = first_of _ _ _ _ _ t.1.1.0;
          shares_long = first_of _ _ _ _ _ t.1.1.1.0;
          reaches_long = first_of _ _ _ _ _ later.0;
        };
        masses_long = first_of _ _ _ _ _ later.1.0;
        fluxes_long = first_of _ _ _ _ _ later.1.1.0;
        outsides_long = first_of _ _ _ _ _ later.1.1.1.0;
        releases_long = first_of _ _ _ _ _ last.0;
      },
      long-fine _ _ _ last.1.0,
    )
