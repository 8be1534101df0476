-- What the tests of this crate come to, over numbers and verdicts.
use Prim.Native.Nat.{ℕ, suc, ◌+◌, ◌-◌, ◌*◌, ◌/◌, ◌^◌, ◌≤◌, ◌<◌}
use mathlib.Core.Path.{◌≡◌, sym, ◌∙◌}
use mathlib.Core.Bool.{Bool, true, false}
use mathlib.Core.List.{List, [], ◌∷◌}
use native.Mathlib.Nat.{div-lt_iff_lt-mul, div-mul-le_self, mul-le-mul_right}
use native.Mathlib.Omega.{arith}
use borrow.Author.Tests.{lt-ltb, le-ltb, leb-true}
use lib.Dec.{leb, ltb}
use lib.ListN.{length, get_or}
use Rattle.lists.specs.Fold.{sum}
use Rattle.lists.proofs.Tests.{Fits, fits, exceeds, fits?, both_true}
use Rattle.signed.specs.Sign.{size}
use Rattle.model.specs.Mesh.{Mesh, max_volume, volume, first, second, total, rim, max_cells, max_faces, max_concentration, ceiling, incoming, outgoing, entering, leaving}
use Rattle.model.specs.Step.{flux}
use Rattle.model.specs.Causes.{Verdict, between, release, mesh_causes, water_causes, volume_good, ends_good, spacing_good, salt_good, water_of, values_verdict, fine, ◌and_then◌, each, counts, mesh_tables, field_table, mesh_values, field_values, raised_good, raised_values, mesh_field_verdict, Call, input_of, step_tables, outside_good, flux_good, balance_good, outflow_good, step_values, verdict}
use Rattle.model.specs.Claims.{max_claim, claim_tables, unworked_verdict}
use Rattle.model.specs.Accepted.{StepLent, MeshFit}
use Rattle.model.specs.Calls.{mass_in}
use Rattle.model.proofs.Verdicts.{both-fine, all-fine, each-fine, fine-all, fine-each, and_then-assoc}
use Rattle.model.proofs.Accepted.{counted, mesh_lent, field-lent, call-lent, mesh-fit, field_fit, water-fit, mass-small, second-most, flux-small}
use Rattle.model.proofs.Claims.{claim_lent}
use Rattle.model.proofs.Sizes.{total_most}
use Rattle.model.proofs.Accepted.{field-passed}
use Rattle.check_passing.specs.Passing.{FacesShaped, FacesPass}
use Rattle.checks.specs.Quick.{CellFine}

-- cause 6 without a division
pub salt-test : (m v : ℕ) → 1 ≤ v → ltb m ((max_concentration + 1) * v) ≡ leb (m / v) max_concentration
salt-test m v h = go (leb (m / v) max_concentration) (fits? (m / v) max_concentration)
  where
    go : (b : Bool) → Fits (m / v) max_concentration b → ltb m ((max_concentration + 1) * v) ≡ b
    go true (fits l) = lt-ltb m ((max_concentration + 1) * v) ((div-lt_iff_lt-mul {k = v} {x = m} {y = max_concentration + 1} h).0 (omega arith))
    go false (exceeds l) = le-ltb m ((max_concentration + 1) * v) (omega (arith, div-mul-le_self m v, mul-le-mul_right v l))

-- cause 18 without a sum: what is left of the ceiling after the mass
pub raised-test : (m r v : ℕ) → 1 ≤ v → m < (max_concentration + 1) * v → ltb r ((max_concentration + 1) * v - m) ≡ leb ((m + r) / v) max_concentration
raised-test m r v h l = left (ltb r (end - m)) (fits? (suc r) (end - m)) ∙ salt-test (m + r) v h
  where
    end : ℕ
    end = (max_concentration + 1) * v

    left : (b : Bool) → Fits (suc r) (end - m) b → b ≡ ltb (m + r) end
    left true (fits k) = sym (lt-ltb (m + r) end (omega arith))
    left false (exceeds k) = sym (le-ltb (m + r) end (omega arith))

pub raised-over : (m r v : ℕ) → 1 ≤ v → (max_concentration + 1) * v ≤ m → false ≡ leb ((m + r) / v) max_concentration
raised-over m r v h l = sym (le-ltb (m + r) ((max_concentration + 1) * v) (omega arith)) ∙ salt-test (m + r) v h

-- what the sum of the masses asks for
pub sum-asks : (M : Mesh) (field : List ℕ) → mesh_field_verdict M field ≡ fine → (M.cells ≤ length field) × (sum M.cells (mass_in field) < 2 ^ 64)
unfolding total
sum-asks M field e =
    let p = field-passed e in
    let l = both-fine _ _ p.lent_fine in
    let m = mesh-fit M p.mesh_fine in (
      field-lent M field l.1,
      omega (
        arith,
        total_most M (mass_in field) (counted M (both-fine _ _ l.0).0).few_cells
            (λ c h. mass-small (mass_in field c) (volume M c) (m.volume_some c h) (m.volume_most c h) (field_fit M field p.field_fine c h)),
      ),
    )

regroup : (m f u p q r s : Verdict) → (m and_then f and_then u and_then (p and_then q and_then r and_then s))
    ≡ (m and_then (f and_then u and_then (p and_then q)) and_then (r and_then s))
regroup m f u p q r s = simp and_then-assoc

after-lengths : (t m f u s : Verdict) → (t and_then m and_then f and_then u and_then s) ≡ (t and_then (m and_then f and_then u and_then s))
after-lengths t m f u s = simp and_then-assoc

module _ (M : Mesh) (field : List ℕ) (k : Call) where
  -- all causes: those of lengths, then those of values, which rest on water and releases alone
  pub lengths-first : verdict M field k ≡ (counts M and_then mesh_tables M and_then field_table M field and_then step_tables M field k
      and_then values_verdict M field (water_of k.fluxes k.outsides k.releases))
  unfolding verdict values_verdict raised_values raised_good step_values outside_good flux_good balance_good outflow_good
  lengths-first = after-lengths (counts M and_then mesh_tables M and_then field_table M field and_then step_tables M field k)
      (mesh_values ceiling M) (field_values M field) (raised_values M field k) (step_values ceiling M field k)

  -- the same of a judging
  pub claim-lengths-first : unworked_verdict M field k ≡ (counts M and_then mesh_tables M and_then field_table M field and_then claim_tables M field k
      and_then values_verdict M field (water_of k.fluxes k.outsides k.releases))
  unfolding unworked_verdict values_verdict raised_values raised_good step_values outside_good flux_good balance_good outflow_good
  claim-lengths-first = after-lengths (counts M and_then mesh_tables M and_then field_table M field and_then claim_tables M field k)
      (mesh_values ceiling M) (field_values M field) (raised_values M field k) (step_values ceiling M field k)

  -- causes of values as they are tested: those that rest on nothing together
  pub in-groups : values_verdict M field k ≡ (mesh_values ceiling M
      and_then (field_values M field and_then raised_values M field k
      and_then (each 7 M.faces (outside_good M field k) and_then each 8 M.faces (flux_good ceiling M field k)))
      and_then (each 9 M.cells (balance_good M field k) and_then each 10 M.cells (outflow_good M field k)))
  unfolding values_verdict step_values
  in-groups = regroup (mesh_values ceiling M) (field_values M field) (raised_values M field k)
      (each 7 M.faces (outside_good M field k)) (each 8 M.faces (flux_good ceiling M field k)) (each 9 M.cells (balance_good M field k))
      (each 10 M.cells (outflow_good M field k))

  -- what the tests of values ask for
  pub step-lent : (counts M and_then mesh_tables M and_then field_table M field) ≡ fine → step_tables M field k ≡ fine
      → StepLent M field (water_of k.fluxes k.outsides k.releases)
  step-lent e d =
      let f = both-fine _ _ e in
      let m = both-fine _ _ f.0 in
      let l = call-lent M field k d in
      record {
        counts_fit = counted M m.0;
        lent = mesh_lent M m.1;
        masses_long = field-lent M field f.1;
        fluxes_long = l.fluxes_long;
        outsides_long = l.outsides_long;
        releases_long = l.releases_long;
      }

  pub claim-asks : (counts M and_then mesh_tables M and_then field_table M field) ≡ fine → claim_tables M field k ≡ fine
      → StepLent M field (water_of k.fluxes k.outsides k.releases)
  claim-asks e d =
      let f = both-fine _ _ e in
      let m = both-fine _ _ f.0 in
      let l = claim_lent M field k d in
      record {
        counts_fit = counted M m.0;
        lent = mesh_lent M m.1;
        masses_long = field-lent M field f.1;
        fluxes_long = l.fluxes_long;
        outsides_long = l.outsides_long;
        releases_long = l.releases_long;
      }

  module _ (l : StepLent M field k) where
    pub water-asks : (M.faces ≤ length M.seconds) × (M.faces ≤ length M.reaches) × (M.faces ≤ length k.fluxes) × (M.faces ≤ length k.outsides)
    water-asks = (l.lent.seconds_long, l.lent.reaches_long, l.fluxes_long, l.outsides_long)

    module _ (m : mesh_values ceiling M ≡ fine) where
      fit : MeshFit M
      fit = mesh-fit M m

      pub field-asks : ((M.cells ≤ length M.volumes) × (M.cells ≤ length field)) × ((c : ℕ) → c < M.cells → (1 ≤ volume M c) × (volume M c ≤ max_volume))
      field-asks = ((l.lent.volumes_long, l.masses_long), λ c h. (fit.volume_some c h, fit.volume_most c h))

      pub raised-asks : ((M.cells ≤ length M.volumes) × (M.cells ≤ length field) × (M.cells ≤ length k.releases))
          × ((c : ℕ) → c < M.cells → (1 ≤ volume M c) × (volume M c ≤ max_volume))
      raised-asks = ((l.lent.volumes_long, l.masses_long, l.releases_long), λ c h. (fit.volume_some c h, fit.volume_most c h))

      pub flows-ask : (field_values M field and_then raised_values M field k
          and_then (each 7 M.faces (outside_good M field k) and_then each 8 M.faces (flux_good ceiling M field k))) ≡ fine
          → ((M.cells ≤ max_cells) × (M.faces ≤ max_faces) × (M.cells ≤ length M.volumes) × (M.faces ≤ length M.firsts)
          × (M.faces ≤ length M.seconds) × (M.faces ≤ length k.fluxes))
          × ((f : ℕ) → f < M.faces → (first M f ≤ rim) × (second M f ≤ rim) × (size (flux (input_of M field k) f) ≤ max_claim))
      flows-ask v =
          let w = both-fine _ _ (both-fine _ _ v).1 in
          let few = l.counts_fit.few_cells in (
            (few, l.counts_fit.few_faces, l.lent.volumes_long, l.lent.firsts_long, l.lent.seconds_long, l.fluxes_long),
            λ f h. (
              omega (arith, fit.first-in f h),
              second-most M few fit f h,
              omega (arith, flux-small (input_of M field k) fit (water-fit M field k w.0 w.1) f h),
            ),
          )

-- nothing is refused: one cell's numbers, and all of a step's
pub volume-within : (v : ℕ) → between 1 ceiling v ≡ true → v ≤ ceiling
volume-within v h = leb-true v ceiling (both_true (leb 1 v) (leb v ceiling) h).1

pub cell-fine : (v m r : ℕ) → between 1 ceiling v ≡ true → m < (max_concentration + 1) * v → r < (max_concentration + 1) * v - m → CellFine v m r
cell-fine v m r h l k =
    let some : 1 ≤ v = leb-true 1 v (both_true (leb 1 v) (leb v ceiling) h).0 in
    (h, sym (salt-test m v some) ∙ lt-ltb m _ l, sym (raised-test m r v some l) ∙ lt-ltb r _ k)

module _ (M : Mesh) (field : List ℕ) (k : Call) (h : (c : ℕ) → c < M.cells → CellFine (volume M c) (get_or field c 0) (release k c))
    (p : FacesPass M.cells M.faces M.volumes M.firsts M.seconds M.shares M.reaches k.fluxes k.outsides) where
  mesh-passes : mesh_values ceiling M ≡ fine
  unfolding mesh_values volume_good ends_good spacing_good
  mesh-passes = fine-all (mesh_causes ceiling M) (fine-each 3 M.cells (volume_good ceiling M) (λ c l. (h c l).0), (p.0, (p.1, tt)))

  water-passes : step_values ceiling M field k ≡ fine
  unfolding step_values outside_good flux_good balance_good outflow_good incoming outgoing entering leaving
  water-passes = fine-all (water_causes ceiling M field k) (p.2, (p.3, (p.4, (p.5, tt))))

  salt-passes : field_values M field ≡ fine
  unfolding field_values salt_good
  salt-passes = fine-each 6 M.cells (salt_good M field) (λ c l. (h c l).1)

  raised-passes : raised_values M field k ≡ fine
  unfolding raised_values raised_good
  raised-passes = fine-each 18 M.cells (raised_good M field k) (λ c l. (h c l).2)

  pub all_pass : values_verdict M field k ≡ fine
  unfolding values_verdict
  all_pass = fine-all (mesh_values ceiling M ∷ field_values M field ∷ raised_values M field k ∷ step_values ceiling M field k ∷ [])
      (mesh-passes, (salt-passes, (raised-passes, (water-passes, tt))))

-- the faces of a mesh whose values are accepted
pub faces-shaped : (M : Mesh) → mesh_values ceiling M ≡ fine → FacesShaped M.cells M.faces M.firsts M.seconds M.shares M.reaches
unfolding mesh_values ends_good spacing_good
faces-shaped M e f h =
    let p = all-fine (mesh_causes ceiling M) e in
    (each-fine 4 M.faces (ends_good M) p.1.0 f h, each-fine 5 M.faces (spacing_good ceiling M) p.1.1.0 f h)
