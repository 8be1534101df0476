-- What leaves is what enters of the amounts turned round: a law of what enters, cited of these, is the law of what leaves.
use Prim.Native.Nat.{ℕ}
use mathlib.Core.Path.{◌≡◌}
use native.Mathlib.Nat.{add_comm}
use lib.IntN.{ℤ, neg_ℤ}
use Rattle.signed.proofs.Turns.{forward-turned, backward-turned}
use Rattle.lists.proofs.Sums.{sum-cong}
use Rattle.model.specs.Mesh.{Mesh, entering, leaving, incoming, outgoing}

abbrev pub opposite : (ℕ → ℤ) → ℕ → ℤ
opposite x f = neg_ℤ (x f)

module _ (M : Mesh) (x : ℕ → ℤ) (c : ℕ) where
  pub leaving-turned : (f : ℕ) → leaving M x c f ≡ entering M (opposite x) c f
  unfolding entering leaving
  leaving-turned f = rw (forward-turned (x f), backward-turned (x f)) (add_comm _ _)

  pub outgoing-turned : outgoing M x c ≡ incoming M (opposite x) c
  unfolding incoming outgoing
  outgoing-turned = sum-cong M.faces (leaving M x c) (entering M (opposite x) c) (λ f l. leaving-turned f)
