-- What an accepted call has passed.
use Prim.Native.Nat.{ℕ, suc, ◌+◌, ◌/◌, ◌≤◌, ◌<◌}
use mathlib.Core.Path.{◌≡◌, refl}
use mathlib.Core.Logic.{◌≢◌}
use mathlib.Core.Bool.{Bool, true, false, not, cond, ◌&&◌, ◌||◌}
use mathlib.Core.List.{List}
use native.Mathlib.Nat.{lt-div-mul-add, mul-le-mul, le_trans}
use native.Mathlib.Omega.{arith}
use borrow.Author.Tests.{not-true, ne_eqb, leb-true, le-leb, eqb-true, eqb-false}
use lib.ListN.{length, get_or}
use lib.Dec.{eqb, leb, ltb}
use Rattle.signed.specs.Sign.{size, is_negative}
use Rattle.lists.proofs.Tests.{Same, same, other, same?, both_true, either_true}
use Rattle.lists.proofs.Sums.{greatest-le}
use Rattle.model.specs.Mesh.{Mesh, volume, first, second, share, reach, at_rim, rim, incoming, outgoing, max_cells, max_faces, max_volume, max_share, max_concentration, max_rim_flux, ceiling}
use Rattle.model.specs.Step.{StepInput, raised, rounded, flux, outside, concentration, adjacent, hi}
use Rattle.model.specs.Causes.{spacing_fit, mesh_long, mesh_lengths, step_lengths, mesh_causes, release, raised_good, raised_values, water_causes, step_causes, fine, ◌and_then◌, each, between, Call, input_of, counts_within, counts, mesh_tables, volume_good, ends_good, spacing_good, mesh_values, field_table, field_values, salt_good, field_verdict, step_tables, outside_good, flux_good, balance_good, outflow_good, step_values, verdict, mesh_field_verdict}
use Rattle.model.specs.Accepted.{Counted, MeshLong, MeshLent, CallLent, MeshFit, WaterFit, Ready, max_mass}
use Rattle.model.proofs.Verdicts.{AllFine, both-fine, all-fine, fine-all, need-fine, need-met, long-fine, long-met, each-fine, fine-each}
use Rattle.model.proofs.Low.{met-any}
use Rattle.model.proofs.Raised.{raised_long, raised_at}
use Rattle.model.proofs.Rounded.{rounded-there, rounded_rest}

-- past cause 1
pub counted : (M : Mesh) → counts M ≡ fine → Counted M
unfolding counts counts_within
counted M e =
    let p = both-fine _ _ e in
    let c = both_true (leb 1 M.cells) (leb M.cells max_cells) (need-fine 1 0 _ p.0) in
    record { some = leb-true _ _ c.0; few_cells = leb-true _ _ c.1; few_faces = leb-true _ _ (need-fine 1 1 _ p.1) }

-- past cause 2, and back
module _ {cells faces volumes firsts seconds shares reaches : ℕ} where
  pub long-says : AllFine (mesh_long cells faces volumes firsts seconds shares reaches) → MeshLong cells faces volumes firsts seconds shares reaches
  long-says p = record {
    volumes_long = long-fine _ _ _ p.0;
    firsts_long = long-fine _ _ _ p.1.0;
    seconds_long = long-fine _ _ _ p.1.1.0;
    shares_long = long-fine _ _ _ p.1.1.1.0;
    reaches_long = long-fine _ _ _ p.1.1.1.1.0;
  }

  pub all-long : MeshLong cells faces volumes firsts seconds shares reaches → AllFine (mesh_long cells faces volumes firsts seconds shares reaches)
  all-long l = (
    long-met 0 _ _ l.volumes_long,
    (long-met 1 _ _ l.firsts_long, (long-met 2 _ _ l.seconds_long, (long-met 3 _ _ l.shares_long, (long-met 4 _ _ l.reaches_long, tt)))),
  )

pub mesh_lent : (M : Mesh) → mesh_tables M ≡ fine → MeshLent M
unfolding mesh_tables
mesh_lent M e = long-says (all-fine (mesh_lengths M) e)

pub lent-mesh : (M : Mesh) → MeshLent M → mesh_tables M ≡ fine
unfolding mesh_tables
lent-mesh M l = fine-all (mesh_lengths M) (all-long l)

pub field-lent : (M : Mesh) (field : List ℕ) → field_table M field ≡ fine → M.cells ≤ length field
unfolding field_table
field-lent M field e = long-fine _ _ _ e

pub call-lent : (M : Mesh) (field : List ℕ) (k : Call) → step_tables M field k ≡ fine → CallLent M k
unfolding step_tables
call-lent M field k e =
    let p = all-fine (step_lengths M.cells M.faces k) e in
    record {
      fluxes_long = long-fine _ _ _ p.0;
      outsides_long = long-fine _ _ _ p.1.0;
      nexts_long = long-fine _ _ _ p.1.1.0;
      moveds_long = long-fine _ _ _ p.1.1.1.0;
      work_long = long-fine _ _ _ p.1.1.1.1.0;
      releases_long = long-fine _ _ _ p.1.1.1.1.1.0;
    }

-- past causes 3 to 5
ends-say : (n l k : ℕ) → (ltb l n && (ltb k n || eqb k rim) && not (eqb l k)) ≡ true → (l < n) × (k ≢ rim → k < n) × (l ≢ k)
ends-say n l k e =
    let a = both_true (ltb l n && (ltb k n || eqb k rim)) (not (eqb l k)) e in
    let b = both_true (ltb l n) (ltb k n || eqb k rim) a.0 in (
      leb-true (suc l) n b.0,
      (λ d. leb-true (suc k) n (either_true (ltb k n) (eqb k rim) b.1 (ne_eqb k rim d))),
      eqb-false l k (not-true (eqb l k) a.1),
    )

-- and back
pub ends-pass : (n l k : ℕ) → l < n → (k ≢ rim → k < n) → l ≢ k → (ltb l n && (ltb k n || eqb k rim) && not (eqb l k)) ≡ true
ends-pass n l k h g d = rw (le-leb (suc l) n h, ne_eqb l k d, second-passes (eqb k rim) (same? k rim))
  where
    or-true : (a : Bool) → (a || true) ≡ true
    or-true true = refl
    or-true false = refl

    second-passes : (b : Bool) → Same k rim b → (ltb k n || b) ≡ true
    second-passes true s = or-true (ltb k n)
    second-passes false (other e) = rw (le-leb (suc k) n (g e))

spacing-says : (most k s r : ℕ) → spacing_fit most k s r ≡ true → (s ≤ max_share) × (r ≤ most) × (k ≢ rim → 1 ≤ r)
spacing-says most k s r e = go (eqb k rim) (same? k rim) e
  where
    go : (b : Bool) → Same k rim b → cond b (eqb s 0 && eqb r 0) (between 1 max_share s && between 1 most r) ≡ true → (s ≤ max_share) × (r ≤ most)
        × (k ≢ rim → 1 ≤ r)
    go true (same d) e = let p = both_true (eqb s 0) (eqb r 0) e in (omega (arith, eqb-true s 0 p.0), omega (arith, eqb-true r 0 p.1), λ n. absurd (n d))
    go false o e =
        let p = both_true (between 1 max_share s) (between 1 most r) e in
        let a = both_true (leb 1 s) (leb s max_share) p.0 in
        let b = both_true (leb 1 r) (leb r most) p.1 in
        (leb-true _ _ a.1, leb-true _ _ b.1, λ n. leb-true _ _ b.0)

module _ (most : ℕ) (M : Mesh) (e : mesh_values most M ≡ fine) where
  pub volumes-within : (c : ℕ) → c < M.cells → (1 ≤ volume M c) × (volume M c ≤ most)
  unfolding mesh_values volume_good
  volumes-within c h =
      let p = both_true (leb 1 (volume M c)) (leb (volume M c) most) (each-fine 3 M.cells (volume_good most M) (all-fine (mesh_causes most M) e).0 c h) in
      (leb-true _ _ p.0, leb-true _ _ p.1)

  joins : (f : ℕ) → f < M.faces → (first M f < M.cells) × (second M f ≢ rim → second M f < M.cells) × (first M f ≢ second M f)
  unfolding mesh_values ends_good
  joins f h = ends-say M.cells (first M f) (second M f) (each-fine 4 M.faces (ends_good M) (all-fine (mesh_causes most M) e).1.0 f h)

  pub spaced-within : (f : ℕ) → f < M.faces → (share M f ≤ max_share) × (reach M f ≤ most) × (second M f ≢ rim → 1 ≤ reach M f)
  unfolding mesh_values spacing_good
  spaced-within f h = spacing-says most (second M f) (share M f) (reach M f)
      (each-fine 5 M.faces (spacing_good most M) (all-fine (mesh_causes most M) e).1.1.0 f h)

  -- by a ceiling that is no larger than that of the calls
  pub fit-within : most ≤ ceiling → MeshFit M
  fit-within l = record {
    volume_some = λ c h. (volumes-within c h).0;
    volume_most = λ c h. le_trans (volumes-within c h).1 l;
    first-in = λ f h. (joins f h).0;
    second_in = λ f h. (joins f h).1;
    apart = λ f h. (joins f h).2;
    share_most = λ f h. (spaced-within f h).0;
    reach_some = λ f h. (spaced-within f h).2;
    reach_most = λ f h. le_trans (spaced-within f h).1 l;
  }

pub mesh-fit : (M : Mesh) → mesh_values ceiling M ≡ fine → MeshFit M
mesh-fit M e = fit-within ceiling M e (omega arith)

-- past cause 6, and back
pub field_fit : (M : Mesh) (field : List ℕ) → field_values M field ≡ fine → (c : ℕ) → c < M.cells → get_or field c 0 / volume M c ≤ max_concentration
unfolding field_values salt_good
field_fit M field e c h = leb-true _ _ (each-fine 6 M.cells (salt_good M field) e c h)

pub field_accepted : (M : Mesh) (field : List ℕ) → M.cells ≤ length field → ((c : ℕ) → c < M.cells → get_or field c 0 / volume M c ≤ max_concentration)
    → field_verdict M field ≡ fine
unfolding field_verdict field_table field_values salt_good ◌and_then◌
field_accepted M field long fresh =
    rw (need-met 2 5 (le-leb M.cells (length field) long))
    (fine-each 6 M.cells (salt_good M field) (λ c h. le-leb (get_or field c 0 / volume M c) max_concentration (fresh c h)))

-- past cause 18
pub raised-fit : (M : Mesh) (field : List ℕ) (k : Call) → raised_values M field k ≡ fine → (c : ℕ) → c < M.cells
    → (get_or field c 0 + release k c) / volume M c ≤ max_concentration
unfolding raised_values raised_good
raised-fit M field k e c h = leb-true _ _ (each-fine 18 M.cells (raised_good M field k) e c h)

-- past causes 7 and 8
outside-says : (o : ℕ) (b : Bool) → leb o (cond b max_concentration 0) ≡ true → o ≤ max_concentration
outside-says o true e = leb-true o max_concentration e
outside-says o false e = omega (arith, leb-true o 0 e)

module _ (M : Mesh) (field : List ℕ) (k : Call) where
  pub outside-within : each 7 M.faces (outside_good M field k) ≡ fine → (f : ℕ) → f < M.faces → outside (input_of M field k) f ≤ max_concentration
  unfolding outside_good
  outside-within e f h = outside-says (outside (input_of M field k) f) (at_rim M f && is_negative (flux (input_of M field k) f))
      (each-fine 7 M.faces (outside_good M field k) e f h)

  pub flux-within : (most : ℕ) → each 8 M.faces (flux_good most M field k) ≡ fine → (f : ℕ) → f < M.faces
      → size (flux (input_of M field k) f) ≤ cond (at_rim M f) most (reach M f)
  unfolding flux_good
  flux-within most e f h = leb-true _ _ (each-fine 8 M.faces (flux_good most M field k) e f h)

  pub water-fit : each 7 M.faces (outside_good M field k) ≡ fine → each 8 M.faces (flux_good ceiling M field k) ≡ fine → WaterFit (input_of M field k)
  water-fit e d = record { outside_most = outside-within e; flux_most = flux-within ceiling d }

  -- past causes 9 and 10
  pub level : each 9 M.cells (balance_good M field k) ≡ fine → (c : ℕ) → c < M.cells → incoming M (flux (input_of M field k)) c
      ≡ outgoing M (flux (input_of M field k)) c
  unfolding balance_good
  level e c h = eqb-true _ _ (each-fine 9 M.cells (balance_good M field k) e c h)

  pub courant : each 10 M.cells (outflow_good M field k) ≡ fine → (c : ℕ) → c < M.cells → outgoing M (flux (input_of M field k)) c ≤ volume M c
  unfolding outflow_good
  courant e c h = leb-true _ _ (each-fine 10 M.cells (outflow_good M field k) e c h)

-- the lengths that the tests of values ask for
pub mesh-long : (M : Mesh) → (counts M and_then mesh_tables M) ≡ fine → MeshLent M
mesh-long M e = mesh_lent M (both-fine _ _ e).1

-- what a field whose causes are fine has passed
pub record FieldPassed (M : Mesh) (field : List ℕ) : Type 0 where
  pub lent_fine : (counts M and_then mesh_tables M and_then field_table M field) ≡ fine
  pub mesh_fine : mesh_values ceiling M ≡ fine
  pub field_fine : field_values M field ≡ fine

pub field-passed : {M : Mesh} {field : List ℕ} → mesh_field_verdict M field ≡ fine → FieldPassed M field
unfolding mesh_field_verdict
field-passed {M} {field} e =
    let a = both-fine _ _ e in
    let b = both-fine _ _ a.0 in
    record { lent_fine = b.0; mesh_fine = b.1; field_fine = a.1 }

-- what cause 6 asks for
pub salt-asks-within : (most : ℕ) → most ≤ ceiling → (M : Mesh) (field : List ℕ) → (counts M and_then mesh_tables M and_then field_table M field) ≡ fine
    → mesh_values most M ≡ fine
    → ((M.cells ≤ length M.volumes) × (M.cells ≤ length field)) × ((c : ℕ) → c < M.cells → (1 ≤ volume M c) × (volume M c ≤ max_volume))
salt-asks-within most l M field e d =
    let p = both-fine _ _ e in
    let m = fit-within most M d l in
    (((mesh-long M p.0).volumes_long, field-lent M field p.1), λ c h. (m.volume_some c h, m.volume_most c h))

pub salt-asks : (M : Mesh) (field : List ℕ) → (counts M and_then mesh_tables M and_then field_table M field) ≡ fine → mesh_values ceiling M ≡ fine
    → ((M.cells ≤ length M.volumes) × (M.cells ≤ length field)) × ((c : ℕ) → c < M.cells → (1 ≤ volume M c) × (volume M c ≤ max_volume))
salt-asks = salt-asks-within ceiling (omega arith)

-- what the lengths of a step's tables ask for
pub few : (M : Mesh) (field : List ℕ) → (counts M and_then mesh_tables M and_then field_table M field) ≡ fine → (M.cells ≤ max_cells) × (M.faces ≤ max_faces)
few M field e = let c = counted M (both-fine _ _ (both-fine _ _ e).0).0 in (c.few_cells, c.few_faces)

-- a mass whose concentration is within the ceiling
pub mass-small : (m v : ℕ) → 1 ≤ v → v ≤ max_volume → m / v ≤ max_concentration → m ≤ max_mass
mass-small m v h k l = omega (arith, lt-div-mul-add {a = m} h, mul-le-mul l k)

-- a second cell, and the mark, fit one width
pub second-most : (M : Mesh) → M.cells ≤ max_cells → MeshFit M → (f : ℕ) → f < M.faces → second M f ≤ rim
second-most M few fit f h = go (eqb (second M f) rim) (same? (second M f) rim)
  where
    go : (b : Bool) → Same (second M f) rim b → second M f ≤ rim
    go true (same q) = omega arith
    go false (other q) = omega (arith, fit.second_in f h q)

-- a flux is small, at the rim and inside
pub flux-small : (S : StepInput) → MeshFit S.mesh → WaterFit S → (f : ℕ) → f < S.mesh.faces → size (flux S f) ≤ max_rim_flux
flux-small S fit water f h = go (at_rim S.mesh f) (water.flux_most f h)
  where
    go : (b : Bool) → size (flux S f) ≤ cond b max_rim_flux (reach S.mesh f) → size (flux S f) ≤ max_rim_flux
    go true l = l
    go false l = omega (arith, fit.reach_most f h)

-- the parts of a call that is accepted
pub record Passed (M : Mesh) (field : List ℕ) (k : Call) : Type 0 where
  pub counts_fine : counts M ≡ fine
  pub mesh_tables_fine : mesh_tables M ≡ fine
  pub field_table_fine : field_table M field ≡ fine
  pub step_tables_fine : step_tables M field k ≡ fine
  pub mesh_values_fine : mesh_values ceiling M ≡ fine
  pub field_values_fine : field_values M field ≡ fine
  pub raised_values_fine : raised_values M field k ≡ fine
  pub step_values_fine : step_values ceiling M field k ≡ fine

module _ (M : Mesh) (field : List ℕ) (k : Call) where
  pub passed : verdict M field k ≡ fine → Passed M field k
  unfolding verdict
  passed e =
      let p = all-fine (step_causes M field k) e in
      let values = p.1.1.1.1 in
      record {
        counts_fine = p.0;
        mesh_tables_fine = p.1.0;
        field_table_fine = p.1.1.0;
        step_tables_fine = p.1.1.1.0;
        mesh_values_fine = values.0;
        field_values_fine = values.1.0;
        raised_values_fine = values.1.1.0;
        step_values_fine = values.1.1.1.0;
      }

  -- of any call whose counts, mesh tables and values are fine, with as many fluxes and outside values as faces
  pub ready_by : counts M ≡ fine → mesh_tables M ≡ fine → M.faces ≤ length k.fluxes → M.faces ≤ length k.outsides
      → mesh_values ceiling M ≡ fine → raised_values M field k ≡ fine → step_values ceiling M field k ≡ fine → Ready (input_of M field k)
  unfolding step_values rounded
  ready_by counts_fine tables_fine fluxes_long outsides_long values_fine raised-fine step_fine =
      let c = counted M counts_fine in
      let m = mesh-fit M values_fine in
      let w = all-fine (water_causes ceiling M field k) step_fine in
      record {
        counts_fit = c;
        lent = mesh_lent M tables_fine;
        fit = m;
        masses_long = omega (arith, raised_long M.cells field k.releases);
        fluxes_long = fluxes_long;
        outsides_long = outsides_long;
        salt_most = λ c h. rw (raised_at M.cells field k.releases c h) (raised-fit M field k raised-fine c h);
        water = water-fit M field k w.0 w.1.0;
        sound = record {
          joined = record { few = c.few_cells; first-in = m.first-in; second_in = m.second_in };
          roomy = m.volume_some;
          salt_there = λ c h. rounded-there M (raised M.cells field k.releases) c;
          rest_below = λ c h. rounded_rest M (raised M.cells field k.releases) c (m.volume_some c h);
          level = level M field k w.1.1.0;
          courant = courant M field k w.1.1.1.0;
        };
      }

  pub ready_of : Passed M field k → Ready (input_of M field k)
  ready_of p =
      let l = call-lent M field k p.step_tables_fine in
      ready_by p.counts_fine p.mesh_tables_fine l.fluxes_long l.outsides_long p.mesh_values_fine p.raised_values_fine p.step_values_fine

  pub ready : verdict M field k ≡ fine → Ready (input_of M field k)
  ready e = ready_of (passed e)

-- the greatest concentration around a cell is within the ceiling
module _ (S : StepInput) (r : Ready S) where
  open S use {mesh as M}

  pub adjacent-most : (c f : ℕ) → c < M.cells → f < M.faces → adjacent S c f ≤ max_concentration
  adjacent-most c f h l = met-any (λ q. q ≤ max_concentration) S c f (r.salt_most c h) (r.salt_most (first M f) (r.fit.first-in f l))
      (λ d e. r.water.outside_most f l)
      (λ d. r.salt_most (second M f) (r.fit.second_in f l d))

  pub hi-most : (c : ℕ) → c < M.cells → hi S c ≤ max_concentration
  unfolding hi
  hi-most c h = greatest-le M.faces (concentration S c) (adjacent S c) max_concentration (r.salt_most c h) (λ f l. adjacent-most c f h l)

  pub flux-few : (f : ℕ) → f < M.faces → size (flux S f) ≤ max_rim_flux
  flux-few = flux-small S r.fit r.water

  pub flux-reach : (f : ℕ) → f < M.faces → second M f ≢ rim → size (flux S f) ≤ reach M f
  flux-reach f h d = rw (ne_eqb (second M f) rim d) at (r.water.flux_most f h)
