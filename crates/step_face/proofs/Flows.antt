-- Masses while amounts pass through one face after another: for any amounts that every cell can afford.
use Prim.Native.Nat.{ℕ, ◌+◌, ◌≤◌, ◌<◌}
use mathlib.Core.Path.{◌≡◌, ◌∙◌}
use mathlib.Core.List.{List}
use native.Mathlib.Omega.{arith}
use lib.IntN.{ℤ}
use lib.ListN.{length, get_or}
use Rattle.lists.proofs.Sums.{sum-zero, sum_more, sum-term}
use Rattle.model.specs.Mesh.{Mesh, first, second, entering, leaving, incoming, outgoing, updated}
use Rattle.step_face.specs.Exchange.{brings, takes, Transferred, Flowing}

pub flow-start : (M : Mesh) (x : ℕ → ℤ) (m : ℕ → ℕ) (next : List ℕ) → length next ≡ M.cells → ((c : ℕ) → c < M.cells → get_or next c 0 ≡ m c)
    → Flowing M x m 0 next
flow-start M x m next e h = record { long = e; at = λ c l. omega (arith, h c l, sum-zero (leaving M x c), sum-zero (entering M x c)) }

module _ (M : Mesh) (x : ℕ → ℤ) (m : ℕ → ℕ) (f : ℕ) (h : f < M.faces) (next : List ℕ) (s : Flowing M x m f next) where
  pub flow-afford : ((c : ℕ) → c < M.cells → outgoing M x c ≤ m c) → (c : ℕ) → c < M.cells → takes (first M f) (second M f) (x f) c ≤ get_or next c 0
  unfolding outgoing leaving
  flow-afford afford c l = omega (arith, s.at c l, sum-term f M.faces (leaving M x c) h, afford c l)

  pub flow-room : (most : ℕ) → ((c : ℕ) → c < M.cells → m c + incoming M x c < most) → (c : ℕ) → c < M.cells
      → get_or next c 0 + brings (first M f) (second M f) (x f) c < most
  unfolding incoming entering
  flow-room most room c l = omega (arith, s.at c l, sum-term f M.faces (entering M x c) h, room c l)

  pub flow-turn : (next' : List ℕ) → Transferred next (first M f) (second M f) (x f) next' → Flowing M x m (f + 1) next'
  unfolding entering leaving
  flow-turn next' t = record {
    long = t.same_length ∙ s.long;
    at = λ c l. omega (arith, t.at c (rw s.long l), s.at c l, sum_more f (leaving M x c), sum_more f (entering M x c));
  }

pub flow-end : (M : Mesh) (x : ℕ → ℤ) (m : ℕ → ℕ) (next : List ℕ) → Flowing M x m M.faces next → (c : ℕ) → c < M.cells → get_or next c 0 ≡ updated M m x c
unfolding updated incoming outgoing
flow-end M x m next s c l = omega (arith, s.at c l)
