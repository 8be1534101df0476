-- Values that pass document 01's causes 3 to 8, and releases that pass 18, fit the widths of their fields.
use Prim.Native.Nat.{ℕ, zero, suc, ◌+◌, ◌/◌, ◌^◌, ◌≤◌, ◌<◌}
use mathlib.Core.Path.{◌≡◌}
use mathlib.Core.Bool.{Bool, true, false, cond, ◌&&◌}
use mathlib.Core.List.{List}
use native.Mathlib.Nat.{div-lt_iff_lt-mul}
use native.Mathlib.Omega.{arith}
use lib.IntN.{pos}
use lib.ListN.{get_or}
use borrow.Author.Tests.{leb-true, ltb-true}
use Rattle.lists.proofs.Tests.{Same, same, other, same?}
use Rattle.signed.specs.Sign.{is_negative}
use Rattle.model.specs.Mesh.{Mesh, volume, second, reach, at_rim, rim, max_cells, max_faces, max_concentration}
use Rattle.model.specs.Causes.{fine, each, Call, counts, mesh_values, field_values, outside_good, flux_good}
use Rattle.model.specs.Accepted.{MeshFit}
use Rattle.model.proofs.Accepted.{volumes-within, spaced-within, fit-within, field_fit, outside-within, flux-within, counted}
use Rattle.model.proofs.Verdicts.{each-fine}
use Rattle.record_sections.specs.Sections.{Fits}
use Rattle.record_sections.proofs.Columns.{sign_fits}
use Rattle.record_layouts.specs.Layouts.{kind_number, kind_bits, release_bits, release_of, mesh_kind, field_kind, value_of, mass_width, end_bits, value_bits, mass_bits, outside_bits, is_rim, mass_of, size_of, outside_of, mesh_shape, mesh_value, field_shape, field_value, step_shape, step_value}
use Rattle.record_layouts.specs.declared.StepKind.{StepKind}
use Rattle.record_layouts.specs.declared.StepKind.TheVariants.{Water, Outfalls}
use Rattle.record_layouts.specs.declared.Width.{Width}
use Rattle.record_layouts.specs.declared.Width.TheVariants.{Narrow, Wide}
use Rattle.record_layouts.proofs.Layouts.{mesh-value, field-mass, step-value}
use Rattle.record_causes.proofs.Refusing.{most-within}
use Rattle.record_writing.specs.Writing.{most_of, release_fits, releases_fit}

-- the fields of a width hold its ceiling
value_room : (w : Width) {v : ℕ} → v ≤ most_of w → v < 2 ^ value_of w
value_room Narrow h = omega arith
value_room Wide h = omega arith

mesh-kind-fits : (w : Width) → mesh_kind w < 2 ^ kind_bits
mesh-kind-fits Narrow = omega arith
mesh-kind-fits Wide = omega arith

field-kind-fits : (w : Width) → field_kind w < 2 ^ kind_bits
field-kind-fits Narrow = omega arith
field-kind-fits Wide = omega arith

fit : (w : Width) (M : Mesh) → mesh_values (most_of w) M ≡ fine → MeshFit M
fit w M e = fit-within (most_of w) M e (most-within w)

module _ (w : Width) (M : Mesh) (within : counts M ≡ fine) (passes : mesh_values (most_of w) M ≡ fine) where
  second_fits : (f : ℕ) → f < M.faces → {b : Bool} → Same (second M f) rim b → second M f < 2 ^ end_bits
  second_fits f l (same q) = omega arith
  second_fits f l (other d) = omega (arith, (fit w M passes).second_in f l d, (counted M within).few_cells)

  pub mesh_fits : Fits (mesh_shape (mesh_kind w) M.cells M.faces) (mesh_value (mesh_kind w) M)
  mesh_fits zero zero i h = mesh-kind-fits w
  mesh_fits zero (suc zero) i h = omega (arith, (counted M within).few_cells)
  mesh_fits zero (suc (suc zero)) i h = omega (arith, (counted M within).few_faces)
  mesh_fits zero (suc (suc (suc zero))) i h = omega arith
  mesh_fits zero (suc (suc (suc (suc j)))) i h = absurd (omega (arith, h.among))
  mesh_fits (suc zero) zero i h = rw (mesh-value w) (value_room w (volumes-within (most_of w) M passes i h.below).1)
  mesh_fits (suc zero) (suc j) i h = absurd (omega (arith, h.among))
  mesh_fits (suc (suc zero)) zero i h = omega (arith, (fit w M passes).first-in i h.below, (counted M within).few_cells)
  mesh_fits (suc (suc zero)) (suc zero) i h = second_fits i h.below (same? (second M i) rim)
  mesh_fits (suc (suc zero)) (suc (suc zero)) i h = omega (arith, (spaced-within (most_of w) M passes i h.below).0)
  mesh_fits (suc (suc zero)) (suc (suc (suc zero))) i h = rw (mesh-value w) (value_room w (spaced-within (most_of w) M passes i h.below).1)
  mesh_fits (suc (suc zero)) (suc (suc (suc (suc j)))) i h = absurd (omega (arith, h.among))
  mesh_fits (suc (suc (suc k))) j i h = absurd (omega (arith, h.below))

mass_fits : (w : Width) (m v : ℕ) → 1 ≤ v → v ≤ most_of w → m / v ≤ max_concentration → m < 2 ^ mass_width w
mass_fits Narrow m v some most h = omega (arith, (div-lt_iff_lt-mul {k = v} {x = m} {y = max_concentration + 1} some).0 (omega arith))
mass_fits Wide m v some most h = omega (arith, (div-lt_iff_lt-mul {k = v} {x = m} {y = max_concentration + 1} some).0 (omega arith))

module _ (w : Width) (M : Mesh) (passes : mesh_values (most_of w) M ≡ fine) (field : List ℕ) (salt : field_values M field ≡ fine) where
  pub masses_fit : (c : ℕ) → c < M.cells → mass_of field c < 2 ^ mass_bits (field_kind w)
  masses_fit c l = let v = volumes-within (most_of w) M passes c l in
      rw (field-mass w) (mass_fits w (get_or field c 0) (volume M c) v.0 v.1 (field_fit M field salt c l))

pub field_fits : (w : Width) (cells : ℕ) (masses : List ℕ) → cells ≤ max_cells → ((c : ℕ) → c < cells → mass_of masses c < 2 ^ mass_bits (field_kind w))
    → Fits (field_shape (field_kind w) cells) (field_value (field_kind w) cells masses)
field_fits w cells masses few fit zero zero i h = field-kind-fits w
field_fits w cells masses few fit zero (suc zero) i h = omega arith
field_fits w cells masses few fit zero (suc (suc j)) i h = absurd (omega (arith, h.among))
field_fits w cells masses few fit (suc zero) zero i h = fit i h.below
field_fits w cells masses few fit (suc zero) (suc j) i h = absurd (omega (arith, h.among))
field_fits w cells masses few fit (suc (suc k)) j i h = absurd (omega (arith, h.below))

module _ (w : Width) (M : Mesh) (passes : mesh_values (most_of w) M ≡ fine) (field : List ℕ) (k : Call)
    (outsides-pass : each 7 M.faces (outside_good M field k) ≡ fine) (fluxes-pass : each 8 M.faces (flux_good (most_of w) M field k) ≡ fine) where
  pub sizes-fit : (kind : StepKind) (f : ℕ) → f < M.faces → size_of k.fluxes f < 2 ^ value_bits (kind_number w kind)
  sizes-fit kind f l = rw (step-value w kind) (value_room w (go (at_rim M f) (flux-within M field k (most_of w) fluxes-pass f l)))
    where
      go : (b : Bool) → size_of k.fluxes f ≤ cond b (most_of w) (reach M f) → size_of k.fluxes f ≤ most_of w
      go true h = h
      go false h = omega (arith, (spaced-within (most_of w) M passes f l).1)

  pub outsides_fit : (f : ℕ) → f < M.faces → outside_of k.outsides f < 2 ^ outside_bits
  outsides_fit f l = omega (arith, outside-within M field k outsides-pass f l)

  -- away from the rim the outside value is 0
  pub none_inside : (f : ℕ) → f < M.faces → is_rim M.seconds f ≡ false → outside_of k.outsides f ≡ 0
  unfolding outside_good
  none_inside f l e =
      let g : get_or k.outsides f 0 ≤ cond (at_rim M f && is_negative (get_or k.fluxes f (pos 0))) max_concentration 0 =
      leb-true _ _ (each-fine 7 M.faces (outside_good M field k) outsides-pass f l) in
      let h : get_or k.outsides f 0 ≤ 0 = rw e at g in
      omega arith

-- both kinds of a step fit the head's first field
pub kind_fits : (w : Width) (kind : StepKind) → kind_number w kind < 2 ^ kind_bits
kind_fits Narrow Water = omega arith
kind_fits Narrow Outfalls = omega arith
kind_fits Wide Water = omega arith
kind_fits Wide Outfalls = omega arith

pub releases-fit : (w : Width) (kind : StepKind) (cells : ℕ) (releases : List ℕ) → releases_fit (kind_number w kind) cells releases ≡ fine
    → (c : ℕ) → c < cells → release_of releases c < 2 ^ release_bits (kind_number w kind)
releases-fit w kind cells releases e c l =
    ltb-true _ _ (each-fine 18 cells (λ i. release_fits (kind_number w kind) (release_of releases i)) e c l)

-- a step of a kind that its head can say, whose releases fit
module _ (w : Width) (M : Mesh) (passes : mesh_values (most_of w) M ≡ fine) (field : List ℕ) (k : Call)
    (outsides-pass : each 7 M.faces (outside_good M field k) ≡ fine) (fluxes-pass : each 8 M.faces (flux_good (most_of w) M field k) ≡ fine)
    (kind : StepKind) (releases-pass : releases_fit (kind_number w kind) M.cells k.releases ≡ fine) where
  pub step_fits : M.faces ≤ max_faces
      → Fits (step_shape (kind_number w kind) M.cells M.faces M.seconds)
      (step_value (kind_number w kind) M.faces k.fluxes k.outsides k.releases)
  step_fits few zero zero i h = kind_fits w kind
  step_fits few zero (suc zero) i h = omega arith
  step_fits few zero (suc (suc zero)) i h = omega arith
  step_fits few zero (suc (suc (suc j))) i h = absurd (omega (arith, h.among))
  step_fits few (suc zero) zero i h = sign_fits (is_negative (get_or k.fluxes i (pos 0)))
  step_fits few (suc zero) (suc zero) i h = sizes-fit w M passes field k outsides-pass fluxes-pass kind i h.below
  step_fits few (suc zero) (suc (suc j)) i h = absurd (omega (arith, h.among))
  step_fits few (suc (suc zero)) zero i h = outsides_fit w M passes field k outsides-pass fluxes-pass i h.below
  step_fits few (suc (suc zero)) (suc j) i h = absurd (omega (arith, h.among))
  step_fits few (suc (suc (suc zero))) zero i h = releases-fit w kind M.cells k.releases releases-pass i h.below
  step_fits few (suc (suc (suc zero))) (suc j) i h = absurd (omega (arith, h.among))
  step_fits few (suc (suc (suc (suc n)))) j i h = absurd (omega (arith, h.below))
