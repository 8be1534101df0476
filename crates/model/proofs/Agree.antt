-- Entries past the counts mean nothing: steps that agree below their counts are alike, each cell and face with its own number, and so
-- have the same stages, verdicts and answers, by the laws of those that are alike. Causes 3 to 5 agree of any mesh, accepted or not.
use Prim.Native.Nat.{ℕ, ◌≤◌, ◌<◌}
use mathlib.Core.Path.{◌≡◌, refl, sym, ap, ap₂, ◌∙◌}
use mathlib.Core.Bool.{Bool, true, false, cond}
use mathlib.Core.List.{List}
use native.Mathlib.Omega.{arith}
use lib.Dec.{eqb}
use lib.IntN.{ℤ, pos, neg_ℤ}
use Rattle.lists.specs.Fold.{sum}
use Rattle.lists.specs.Renumbering.{unmoved}
use Rattle.lists.specs.Table.{table, over}
use Rattle.lists.proofs.Tests.{Same, same, same?}
use Rattle.lists.proofs.Sums.{sum-cong}
use Rattle.lists.proofs.Tables.{table-cong}
use Rattle.model.specs.Mesh.{Mesh, first, second, rim, entering, incoming, outgoing, total, ceiling}
use Rattle.model.specs.Step.{StepInput, carried, lo, hi, moved, next, in_mass, out_mass}
use Rattle.model.specs.Alike.{straight, AlikeEnds, AlikeMesh, Alike, AlikeCall, AgreeMesh, Agree, AgreeCall}
use Rattle.model.specs.Causes.{accepted, refused, Verdict, fine, granted, each, Call, input_of, mesh_tables, field_table, step_tables, mesh_values, volume_good, ends_good, spacing_good, field_values, field_verdict, verdict}
use Rattle.model.specs.Calls.{mass_in, Bounded, Left, crossing_of, corrected, step_answer, next_table, moved_table}
use Rattle.model.specs.Accepted.{MeshFit}
use Rattle.model.proofs.Accepted.{ready}
use Rattle.model.proofs.Turned.{opposite, outgoing-turned}
use Rattle.model.proofs.Lists.{Fair}
use Rattle.model.proofs.AlikeStages.{carried-alike, lo-alike, hi-alike, moved-alike, next-alike, in-mass-alike, out-mass-alike}
use Rattle.model.proofs.AlikeCauses.{each-alike, field-values-alike, raised-alike, q-alike, crossing-alike, verdict-alike, answer-alike}

pub whole : (k : ℕ) → k ≡ cond (eqb k rim) rim k
whole k = go (eqb k rim) (same? k rim)
  where
    go : (b : Bool) → Same k rim b → k ≡ cond b rim k
    go true (same e) = e
    go false s = refl

-- faces that join the same cells
pub same_ends : (M M' : Mesh) → M'.cells ≡ M.cells → M'.faces ≡ M.faces → ((f : ℕ) → f < M.faces → (first M' f ≡ first M f) × (second M' f ≡ second M f))
    → AlikeEnds M M' (unmoved M.cells) (unmoved M.faces) (λ f. false)
same_ends M M' c n ends = record { cells_same = c; faces_same = n; facing = λ f l. straight (ends f l).0 ((ends f l).1 ∙ whole (second M f)) }

meshes-alike : (M M' : Mesh) → AgreeMesh M M' → AlikeMesh M M' (unmoved M.cells) (unmoved M.faces) (λ f. false)
meshes-alike M M' m = record {
  ends_alike = same_ends M M' m.cells_same m.faces_same (λ f l. (m.firsts f l, m.seconds f l));
  volume_same = m.volumes;
  share_same = m.shares;
  reach_same = m.reaches;
}

agree-alike : (S S' : StepInput) → Agree S S' → Alike S S' (unmoved S.mesh.cells) (unmoved S.mesh.faces) (λ f. false)
agree-alike S S' g =
    record {
      mesh_alike = meshes-alike S.mesh S'.mesh g.mesh_agrees;
      mass_same = g.masses;
      q_same = g.q_agrees;
      flux_same = g.fluxes;
      outside_same =
          g.outsides;
    }

-- the stages
module _ (S S' : StepInput) (few : S.mesh.cells ≤ rim) (fit : MeshFit S.mesh) (g : Agree S S') where
  pub lo-agree : (c : ℕ) → c < S.mesh.cells → lo S' c ≡ lo S c
  lo-agree = lo-alike S S' few fit _ _ _ (agree-alike S S' g)

  pub hi-agree : (c : ℕ) → c < S.mesh.cells → hi S' c ≡ hi S c
  hi-agree = hi-alike S S' few fit _ _ _ (agree-alike S S' g)

  pub carried-agree : (f : ℕ) → f < S.mesh.faces → carried S' f ≡ carried S f
  carried-agree = carried-alike S S' few fit _ _ _ (agree-alike S S' g)

  pub moved-agree : (f : ℕ) → f < S.mesh.faces → moved S' f ≡ moved S f
  moved-agree = moved-alike S S' few fit _ _ _ (agree-alike S S' g)

  pub next_agree : (c : ℕ) → c < S.mesh.cells → next S' c ≡ next S c
  next_agree = next-alike S S' few fit _ _ _ (agree-alike S S' g)

  pub in-agree : in_mass S' ≡ in_mass S
  in-agree = in-mass-alike S S' few fit _ _ _ (agree-alike S S' g)

  pub out-agree : out_mass S' ≡ out_mass S
  out-agree = out-mass-alike S S' few fit _ _ _ (agree-alike S S' g)

-- what enters and leaves rests on the faces' ends and amounts alone, of any mesh
module _ (M M' : Mesh) (same-faces : M'.faces ≡ M.faces)
    (ends : (f : ℕ) → f < M.faces → (first M' f ≡ first M f) × (second M' f ≡ second M f))
    (x x' : ℕ → ℤ) (same-amounts : (f : ℕ) → f < M.faces → x' f ≡ x f) where
  pub incoming-agree : (c : ℕ) → incoming M' x' c ≡ incoming M x c
  unfolding incoming entering
  incoming-agree c = ap (λ (n : ℕ). sum n (entering M' x' c)) same-faces ∙ sum-cong M.faces _ _ (λ f l. rw ((ends f l).0, (ends f l).1, same-amounts f l))

module _ (M M' : Mesh) (same-faces : M'.faces ≡ M.faces)
    (ends : (f : ℕ) → f < M.faces → (first M' f ≡ first M f) × (second M' f ≡ second M f))
    (x x' : ℕ → ℤ) (same-amounts : (f : ℕ) → f < M.faces → x' f ≡ x f) where
  pub outgoing-agree : (c : ℕ) → outgoing M' x' c ≡ outgoing M x c
  outgoing-agree c = rw (outgoing-turned M' x' c, outgoing-turned M x c)
      (incoming-agree M M' same-faces ends (opposite x) (opposite x') (λ f l. ap neg_ℤ (same-amounts f l)) c)

-- a scan of tests that agree finds the same, at the same place
pub each-agree : (k n : ℕ) {n' : ℕ} (good good' : ℕ → Bool) → n' ≡ n → ((i : ℕ) → i < n → good' i ≡ good i) → each k n' good' ≡ each k n good
each-agree k n = each-alike true k n (unmoved n) (λ q i l. refl)

-- causes 3 to 5
module _ (M M' : Mesh) (g : AgreeMesh M M') where
  pub mesh-values-agree : mesh_values ceiling M' ≡ mesh_values ceiling M
  unfolding mesh_values volume_good ends_good spacing_good
  mesh-values-agree = rw (
    each-agree 3 M.cells (volume_good ceiling M) (volume_good ceiling M') g.cells_same (λ c h. rw (g.volumes c h)),
    each-agree 4 M.faces (ends_good M) (ends_good M') g.faces_same (λ f l. rw (g.cells_same, g.firsts f l, g.seconds f l)),
    each-agree 5 M.faces (spacing_good ceiling M) (spacing_good ceiling M') g.faces_same (λ f l. rw (g.seconds f l, g.shares f l, g.reaches f l)),
  )

  -- cause 6
  pub field-values-agree : (field field' : List ℕ) → ((c : ℕ) → c < M.cells → mass_in field' c ≡ mass_in field c) → field_values M' field' ≡ field_values M field
  field-values-agree field field' = field-values-alike true M M' (unmoved M.cells) (λ q c h. refl) field field' g.cells_same g.volumes

  pub field-verdict-agree : (field : List ℕ) → field_verdict M' field ≡ field_verdict M field
  unfolding field_verdict field_table
  field-verdict-agree field = rw (field-values-agree field field (λ c h. refl), g.cells_same)

  total-agree : (m m' : ℕ → ℕ) → ((c : ℕ) → c < M.cells → m' c ≡ m c) → total M' m' ≡ total M m
  unfolding total
  total-agree m m' same-masses = ap (λ (n : ℕ). sum n m') g.cells_same ∙ sum-cong M.cells m' m same-masses

-- every mesh agrees with itself
pub same-mesh : (M : Mesh) → AgreeMesh M M
same-mesh M = record {
  cells_same = refl;
  faces_same = refl;
  volumes = λ c h. refl;
  firsts = λ f l. refl;
  seconds = λ f l. refl;
  shares = λ f l. refl;
  reaches = λ f l. refl;
}

-- the same mesh and water, with another field
pub field-agrees : (M : Mesh) (k : Call) (field field' : List ℕ) → ((c : ℕ) → c < M.cells → mass_in field' c ≡ mass_in field c) → AgreeCall M M field field' k k
field-agrees M k field field' same-masses = record {
  mesh_agrees = same-mesh M;
  masses = same-masses;
  fluxes = λ f l. refl;
  outsides = λ f l. refl;
  releases = λ c h. refl;
}

module _ (M M' : Mesh) (field field' : List ℕ) (k k' : Call) (a : AgreeCall M M' field field' k k') where
  abbrev S : StepInput
  S = input_of M field k

  abbrev S' : StepInput
  S' = input_of M' field' k'

  abbrev m : AgreeMesh M M'
  m = a.mesh_agrees

  calls-alike : AlikeCall M M' field field' k k' (unmoved M.cells) (unmoved M.faces) (λ f. false)
  calls-alike = record {
    mesh_alike = meshes-alike M M' m;
    mass_same = a.masses;
    release_same = a.releases;
    flux_same = a.fluxes;
    outside_same = a.outsides;
  }

  pub inputs-agree : Agree S S'
  inputs-agree = record {
    mesh_agrees = m;
    masses = raised-alike M M' _ _ _ field field' k k' calls-alike;
    q_agrees = q-alike M M' _ _ _ field field' k k' calls-alike;
    fluxes = a.fluxes;
    outsides = a.outsides;
  }

  abbrev g : Agree S S'
  g = inputs-agree

  pub crossing-agree : M.cells ≤ rim → MeshFit M → crossing_of M' field' k' ≡ crossing_of M field k
  crossing-agree = crossing-alike M M' _ _ _ field field' k k' calls-alike

  -- where cause 2 finds the same too, as in tables that are all long enough
  module _ (mesh_lent : mesh_tables M' ≡ mesh_tables M) (field-lent : field_table M' field' ≡ field_table M field)
      (call-lent : step_tables M' field' k' ≡ step_tables M field k) where
    pub verdict-agree : verdict M' field' k' ≡ verdict M field k
    verdict-agree = verdict-alike true M M' _ _ _ (λ q c h. refl) (λ q f l. refl) field field' k k' calls-alike mesh_lent field-lent call-lent
        (mesh-values-agree M M' m)

    -- what an accepted call makes of the stages is the same; a refused one makes nothing of them
    after-agree : {A : Type 0} (x x' y y' : A) → (verdict M field k ≡ fine → x' ≡ x) → y' ≡ y → granted (verdict M' field' k') x' y'
        ≡ granted (verdict M field k) x y
    after-agree x x' y y' d q = rw (verdict-agree, q) (go (verdict M field k) refl)
      where
        go : (v : Verdict) → verdict M field k ≡ v → granted v x' y ≡ granted v x y
        go (accepted t) e = d e
        go (refused i j) e = refl

    pub answer-agree : step_answer corrected M' k' field' ≡ step_answer corrected M k field
    unfolding step_answer
    answer-agree = answer-alike true M M' _ _ _ (λ q c h. refl) (λ q f l. refl) field field' k k' calls-alike mesh_lent field-lent call-lent
        (mesh-values-agree M M' m)

    pub next-table-agree : k'.nexts ≡ k.nexts → next_table corrected M' k' field' ≡ next_table corrected M k field
    unfolding next_table next
    next-table-agree e = after-agree _ _ _ _ (λ v. ap₂ (λ (t ys : List ℕ). over t ys) (nexts v) e) e
      where
        nexts : verdict M field k ≡ fine → table M'.cells (next S') ≡ table M.cells (next S)
        nexts v = let r = ready M field k v in
            ap (λ (n : ℕ). table n (next S')) m.cells_same
            ∙ table-cong 0 M.cells (next S') (next S) (next_agree S S' r.counts_fit.few_cells r.fit g)

    pub moved-table-agree : k'.moveds ≡ k.moveds → moved_table corrected M' k' field' ≡ moved_table corrected M k field
    unfolding moved_table
    moved-table-agree e = after-agree _ _ _ _ (λ v. ap₂ (λ (t ys : List ℤ). over t ys) (moveds v) e) e
      where
        moveds : verdict M field k ≡ fine → table M'.faces (moved S') ≡ table M.faces (moved S)
        moveds v = let r = ready M field k v in
            ap (λ (n : ℕ). table n (moved S')) m.faces_same
            ∙ table-cong (pos 0) M.faces (moved S') (moved S) (moved-agree S S' r.counts_fit.few_cells r.fit g)

  -- what an accepted call owes of the one, it owes of the other
  module _ (few : M.cells ≤ rim) (fit : MeshFit M) where
    bounded-agree : (after : List ℕ) → Bounded S' after → Bounded S after
    bounded-agree after b c h = let p = b c (rw m.cells_same h) in rw (m.volumes c h, lo-agree S S' few fit g c h, hi-agree S S' few fit g c h) at p

    pub fair-agree : (l : Left) → Fair M' (Bounded S' l.field) field' l → Fair M (Bounded S l.field) field l
    fair-agree l f = record {
      budget = omega (
        arith,
        f.budget,
        total-agree M M' m (mass_in field) (mass_in field') a.masses,
        total-agree M M' m (mass_in l.field) (mass_in l.field) (λ c h. refl),
      );
      holds = bounded-agree l.field f.holds;
      field_accepted = sym (field-verdict-agree M M' m l.field) ∙ f.field_accepted;
    }
