-- What is read of a step's body are its columns: the fluxes, the outside values at the rim, and the releases.
use Prim.Native.Nat.{ℕ, ◌+◌, ◌*◌, ◌^◌, ◌≤◌, ◌<◌}
use mathlib.Core.Path.{◌≡◌, ap, ◌∙◌}
use mathlib.Core.Bool.{cond}
use mathlib.Core.List.{List}
use native.Mathlib.Omega.{arith}
use lib.Dec.{eqb}
use lib.IntN.{pos}
use lib.ListN.{length}
use Rattle.lists.specs.Table.{table}
use Rattle.lists.proofs.Tables.{table-cong}
use Rattle.signed.specs.Sign.{with_sign}
use Rattle.record_bits.specs.Field.{bits_at, widest}
use Rattle.record_sections.specs.Sections.{shape_bits, place, value_in, column_in}
use Rattle.record_sections.proofs.Bodies.{column-is, column-room}
use Rattle.record_layouts.specs.Layouts.{value_bits, flux_bits, outside_bits, release_bits, is_rim, rim_faces, step_body}
use Rattle.record_layouts.proofs.Layouts.{release-wide, mass-most, outside-at, releases-at}

module _ (body : List ℕ) (kind cells faces : ℕ) (seconds : List ℕ) where
  pub fluxes-taken : {v : ℕ} → v ≡ value_bits kind → table faces (λ f. with_sign (eqb (bits_at body (0 + f * (1 + v)) 1) 1) (bits_at body (0 + f * (1 + v) + 1) v))
      ≡ table faces (λ f. with_sign (eqb (value_in body (step_body kind cells faces seconds) 0 0 f) 1) (value_in body (step_body kind cells faces seconds) 0 1 f))
  fluxes-taken e = rw e (table-cong (pos 0) faces _ _ (λ f l. one f))
    where
      one : (f : ℕ) → with_sign (eqb (bits_at body (0 + f * (1 + value_bits kind)) 1) 1) (bits_at body (0 + f * (1 + value_bits kind) + 1) (value_bits kind))
          ≡ with_sign (eqb (value_in body (step_body kind cells faces seconds) 0 0 f) 1) (value_in body (step_body kind cells faces seconds) 0 1 f)
      one f =
          let p : 0 + f * (1 + value_bits kind) ≡ place (step_body kind cells faces seconds) 0 0 f = omega arith in
          let q : 0 + f * (1 + value_bits kind) + 1 ≡ place (step_body kind cells faces seconds) 0 1 f = omega arith in
          ap (λ (x : ℕ). with_sign (eqb (bits_at body x 1) 1) (bits_at body (0 + f * (1 + value_bits kind) + 1) (value_bits kind))) p
          ∙ ap (λ (x : ℕ). with_sign (eqb (value_in body (step_body kind cells faces seconds) 0 0 f) 1) (bits_at body x (value_bits kind))) q

  pub outsides-taken : {p : ℕ} → p ≡ faces * flux_bits kind
      → table faces (λ f. cond (is_rim seconds f) (bits_at body (p + rim_faces seconds f * outside_bits) outside_bits) 0)
      ≡ column_in body (step_body kind cells faces seconds) 1 0
  outsides-taken {p} e = table-cong {A = ℕ} 0 faces _ _ (λ f l. ap (λ (x : ℕ). cond (is_rim seconds f) (bits_at body x outside_bits) 0) (at f))
    where
      at : (f : ℕ) → p + rim_faces seconds f * outside_bits ≡ place (step_body kind cells faces seconds) 1 0 f
      at f = omega (arith, e, outside-at kind cells faces seconds f)

  -- the releases, at the place and of the width that the code reckons
  module _ {p w : ℕ} (e : p ≡ faces * flux_bits kind + rim_faces seconds faces * outside_bits) (d : w ≡ release_bits kind) where
    pub releases-ask : {m : ℕ} → 8 * length body < 2 ^ 64 → shape_bits (step_body kind cells faces seconds) ≤ 8 * length body → cells ≤ m
        → ((8 * length body < 2 ^ 64) × (w ≤ widest) × (cells ≤ m)) × ((i : ℕ) → i < cells → p + i * w + w ≤ 8 * length body)
    releases-ask small holds long =
        rw d ((small, omega (arith, release-wide kind, mass-most kind), long), λ i l. column-room (releases-at kind cells faces seconds e) holds i l)

    pub releases-taken : table cells (λ i. bits_at body (p + i * w) w) ≡ column_in body (step_body kind cells faces seconds) 2 0
    releases-taken = rw d (column-is (releases-at kind cells faces seconds e) body)
