-- Document 02, S-11: what a claim that is accepted keeps; and that the engine's own steps are accepted.
use Prim.Native.Nat.{ℕ, ◌+◌, ◌/◌, ◌≤◌, ◌<◌}
use mathlib.Core.Path.{◌≡◌, refl, sym, ap, ◌∙◌}
use mathlib.Core.Bool.{Bool, true, false, not, ◌&&◌, ◌||◌, true≢false}
use mathlib.Core.List.{List, [], ◌∷◌}
use native.Mathlib.Omega.{arith}
use borrow.Author.Tests.{leb-true, le-leb, eqb-true, eq-eqb}
use lib.Dec.{eqb, leb}
use lib.IntN.{ℤ, pos, negsuc}
use lib.ListN.{length, get_or}
use Rattle.lists.specs.Table.{table}
use Rattle.lists.proofs.Tests.{both_true, true-both}
use Rattle.lists.proofs.Tables.{length-table, get_d_over}
use Rattle.signed.specs.Sign.{forward, backward, size, is_zero}
use Rattle.model.specs.Mesh.{Mesh, volume, first, second, at_rim, rim, incoming, outgoing, updated, ceiling}
use Rattle.model.specs.Step.{StepInput, flux, mass, carried, lo, hi, moved}
use Rattle.model.specs.Alike.{Agree, AgreeCall}
use Rattle.model.specs.Causes.{accepted, fine, long, between, Call, call_of, input_of, work_length, step_lengths, counts, mesh_tables, mesh_values, field_table, field_values, raised_good, raised_values, outside_good, flux_good, balance_good, outflow_good, step_tables, step_values, verdict}
use Rattle.model.specs.Claims.{max_claim, claimed, same_amount, claim_fit, claim_lengths, claim_good, bounds_good, amount_causes, amounts_verdict, claim_tables, unworked_causes, unworked_verdict, claim_verdict}
use Rattle.model.specs.Calls.{mass_in, Scheme, judged, step_answer, next_table, moved_table}
use Rattle.model.specs.Accepted.{MeshLent, ClaimLent, MeshFit, Ready}
use Rattle.model.specs.OwnSteps.{HandedIn, OwnAccepted, OwnSteps}
use Rattle.model.proofs.Verdicts.{AllFine, both-fine, past, all-fine, fine-all, long-fine, long-met, each-fine, fine-each}
use Rattle.model.proofs.Next.{Keeps, moved_keeps, carried_keeps, still-carried, still-moved}
use Rattle.model.proofs.Accepted.{lent-mesh, passed, ready_by, ready}
use Rattle.model.proofs.Sizes.{carried-size, moved-size}
use Rattle.model.proofs.Lists.{Keeping}
use Rattle.model.proofs.Agree.{carried-agree, moved-agree, incoming-agree, outgoing-agree, inputs-agree, crossing-agree, verdict-agree}

-- equal amounts, by their two directions
same-amount : (x y : ℤ) → same_amount x y ≡ true → x ≡ y
same-amount x y e = let p = both_true (eqb (forward x) (forward y)) (eqb (backward x) (backward y)) e in go x y (eqb-true _ _ p.0) (eqb-true _ _ p.1)
  where
    go : (x y : ℤ) → forward x ≡ forward y → backward x ≡ backward y → x ≡ y
    go (pos m) (pos n) a b = ap pos a
    go (pos m) (negsuc n) a b = absurd (omega arith)
    go (negsuc m) (pos n) a b = absurd (omega arith)
    go (negsuc m) (negsuc n) a b = ap negsuc (omega arith)

amount-same : (x : ℤ) → same_amount x x ≡ true
amount-same x = true-both (eq-eqb (forward x) (forward x) refl) (eq-eqb (backward x) (backward x) refl)

-- a test that is asked for only where b holds
asked : (b t : Bool) → (not b || t) ≡ true → b ≡ true → t ≡ true
asked true t e d = e
asked false t e d = absurd (true≢false (sym d))

ask : (b t : Bool) → (b ≡ true → t ≡ true) → (not b || t) ≡ true
ask true t h = h refl
ask false t h = refl

-- what cause 21 leaves true of a face, and back
module _ (r : Bool) (u y x : ℤ) where
  claim-says : claim_fit r u y x ≡ true → (size x ≤ max_claim) × (r ≡ true → x ≡ y)
  claim-says e =
      let p = both_true (leb (size x) max_claim && (not (is_zero u) || is_zero x)) (not r || same_amount x y) e in
      let q = both_true (leb (size x) max_claim) (not (is_zero u) || is_zero x) p.0 in
      (leb-true _ _ q.0, λ d. same-amount x y (asked r (same_amount x y) p.1 d))

  claim-fits : size x ≤ max_claim → (is_zero u ≡ true → x ≡ pos 0) → (r ≡ true → x ≡ y) → claim_fit r u y x ≡ true
  claim-fits h still rim = true-both
      (true-both (le-leb (size x) max_claim h) (ask (is_zero u) (is_zero x) (λ d. ap is_zero (still d))))
      (ask r (same_amount x y) (λ d. let q = rim d in rw (← q) (amount-same x)))

-- past causes 21 and 22, and back
module _ (S : StepInput) (x : ℕ → ℤ) where
  open S use {mesh as M}

  module _ (e : amounts_verdict S x ≡ fine) where
    pub claim-small : (f : ℕ) → f < M.faces → (size (x f) ≤ max_claim) × (at_rim M f ≡ true → x f ≡ carried S f)
    unfolding amounts_verdict claim_good
    claim-small f l = claim-says (at_rim M f) (flux S f) (carried S f) (x f) (each-fine 21 M.faces (claim_good S x) (all-fine (amount_causes S x) e).0 f l)

    pub claim-bounds : (c : ℕ) → c < M.cells → (outgoing M x c ≤ mass S c + incoming M x c)
        × ((lo S c ≤ updated M (mass S) x c / volume M c) × (updated M (mass S) x c / volume M c ≤ hi S c))
    unfolding amounts_verdict bounds_good updated
    claim-bounds c h =
        let q = updated M (mass S) x c / volume M c in
        let p = both_true (leb (outgoing M x c) (mass S c + incoming M x c)) (between (lo S c) (hi S c) q)
        (each-fine 22 M.cells (bounds_good S x) (all-fine (amount_causes S x) e).1.0 c h) in
        let b = both_true (leb (lo S c) q) (leb q (hi S c)) p.1 in
        (leb-true _ _ p.0, (leb-true _ _ b.0, leb-true _ _ b.1))

    pub claim-keeps : Keeps S x
    claim-keeps = record { at-rim = λ f l. (claim-small f l).1; affords = λ c h. (claim-bounds c h).0; bounds = λ c h. (claim-bounds c h).1 }

  -- amounts that keep what a step owes, are small, and move nothing through still faces
  pub keeps-fine : Keeps S x → ((f : ℕ) → f < M.faces → size (x f) ≤ max_claim) → ((f : ℕ) → f < M.faces → is_zero (flux S f) ≡ true → x f ≡ pos 0)
      → amounts_verdict S x ≡ fine
  unfolding amounts_verdict claim_good bounds_good updated
  keeps-fine k small still =
      let faces = fine-each 21 M.faces (claim_good S x) (λ f l. claim-fits (at_rim M f) (flux S f) (carried S f) (x f) (small f l) (still f l) (k.at-rim f l))
      in
      let cells = fine-each 22 M.cells (bounds_good S x)
      (λ c h. true-both (le-leb _ _ (k.affords c h)) (true-both (le-leb _ _ (k.bounds c h).0) (le-leb _ _ (k.bounds c h).1))) in
      fine-all (amount_causes S x) (faces, (cells, tt))

-- the parts of a claim that is accepted
pub record ClaimPassed (M : Mesh) (field : List ℕ) (k : Call) : Type 0 where
  pub counts_fine : counts M ≡ fine
  pub mesh_tables_fine : mesh_tables M ≡ fine
  pub field_table_fine : field_table M field ≡ fine
  pub claim_tables_fine : claim_tables M field k ≡ fine
  pub mesh_values_fine : mesh_values ceiling M ≡ fine
  pub field_values_fine : field_values M field ≡ fine
  pub raised_values_fine : raised_values M field k ≡ fine
  pub step_values_fine : step_values ceiling M field k ≡ fine

module _ (M : Mesh) (field : List ℕ) (k : Call) where
  pub unworked-passed : unworked_verdict M field k ≡ fine → ClaimPassed M field k
  unfolding unworked_verdict
  unworked-passed e =
      let p = all-fine (unworked_causes M field k) e in
      let values = p.1.1.1.1 in
      record {
        counts_fine = p.0;
        mesh_tables_fine = p.1.0;
        field_table_fine = p.1.1.0;
        claim_tables_fine = p.1.1.1.0;
        mesh_values_fine = values.0;
        field_values_fine = values.1.0;
        raised_values_fine = values.1.1.0;
        step_values_fine = values.1.1.1.0;
      }

  pub claim-passed : claim_verdict M field k ≡ fine → ClaimPassed M field k × (amounts_verdict (input_of M field k) (claimed k) ≡ fine)
  unfolding claim_verdict
  claim-passed e = let p = both-fine _ _ e in (unworked-passed p.0, p.1)

  pub passed-claim : ClaimPassed M field k → amounts_verdict (input_of M field k) (claimed k) ≡ fine → claim_verdict M field k ≡ fine
  unfolding claim_verdict unworked_verdict
  passed-claim p a =
      let values : AllFine (mesh_values ceiling M ∷ field_values M field ∷ raised_values M field k ∷ step_values ceiling M field k ∷ [])
      = (p.mesh_values_fine, (p.field_values_fine, (p.raised_values_fine, (p.step_values_fine, tt)))) in
      past _ (fine-all (unworked_causes M field k) (p.counts_fine, (p.mesh_tables_fine, (p.field_table_fine, (p.claim_tables_fine, values))))) ∙ a

  pub claim_lent : claim_tables M field k ≡ fine → ClaimLent M k
  unfolding claim_tables
  claim_lent e =
      let p = all-fine (claim_lengths M.cells M.faces k) e in
      record {
        fluxes_long = long-fine _ _ _ p.0;
        outsides_long = long-fine _ _ _ p.1.0;
        nexts_long = long-fine _ _ _ p.1.1.0;
        moveds_long = long-fine _ _ _ p.1.1.1.0;
        releases_long = long-fine _ _ _ p.1.1.1.1.0;
      }

  pub claim-ready : ClaimPassed M field k → Ready (input_of M field k)
  claim-ready p =
      let l = claim_lent p.claim_tables_fine in
      ready_by M field k p.counts_fine p.mesh_tables_fine l.fluxes_long l.outsides_long p.mesh_values_fine p.raised_values_fine
      p.step_values_fine

-- so an accepted claim is a step of a list like the engine's own
pub judged-keeping : Keeping judged
judged-keeping = record {
  readies = λ M field k e. claim-ready M field k (claim-passed M field k e).0;
  nexts_long = λ M field k e. (claim_lent M field k (claim-passed M field k e).0.claim_tables_fine).nexts_long;
  keeps = λ M field k e. claim-keeps (input_of M field k) (claimed k) (claim-passed M field k e).1;
}

-- amounts that are equal below the count of faces keep the same
keeps_same : (S : StepInput) (x y : ℕ → ℤ) → ((f : ℕ) → f < S.mesh.faces → x f ≡ y f) → Keeps S y → Keeps S x
unfolding updated
keeps_same S x y e k =
    let M = S.mesh in
    let into = incoming-agree M M refl (λ f l. (refl, refl)) y x e in
    let out_of_lem = outgoing-agree M M refl (λ f l. (refl, refl)) y x e in
    record {
      at-rim = λ f l r. e f l ∙ k.at-rim f l r;
      affords = λ c h. rw (into c, out_of_lem c) (k.affords c h);
      bounds = λ c h. rw (into c, out_of_lem c) (k.bounds c h);
    }

-- what is asked of a scheme's amounts, beside what they keep, so that its own steps are accepted: they are small, nothing goes through
-- still faces, and they rest on the counted entries alone
pub record Own (y : StepInput → ℕ → ℤ) : Type 0 where
  pub own_keeps : (S : StepInput) → Ready S → Keeps S (y S)
  pub own_small : (S : StepInput) → Ready S → (f : ℕ) → f < S.mesh.faces → size (y S f) ≤ max_claim
  pub own_still : (S : StepInput) (f : ℕ) → is_zero (flux S f) ≡ true → y S f ≡ pos 0
  pub own_agrees : (S S' : StepInput) → S.mesh.cells ≤ rim → MeshFit S.mesh → Agree S S' → (f : ℕ) → f < S.mesh.faces → y S' f ≡ y S f

moved-own : Own moved
moved-own = record {
  own_keeps = λ S r. moved_keeps S r.sound;
  own_small = λ S r f l. omega (arith, moved-size S r f l);
  own_still = still-moved;
  own_agrees = moved-agree;
}

carried-own : Own carried
carried-own = record {
  own_keeps = λ S r. carried_keeps S r.sound;
  own_small = λ S r f l. omega (arith, carried-size S r f l);
  own_still = still-carried;
  own_agrees = carried-agree;
}

-- tables that are long enough pass cause 2
module _ (M : Mesh) (field : List ℕ) (k : Call) (mesh-long : MeshLent M) (masses_long : M.cells ≤ length field) (l : ClaimLent M k) where
  lent-field : field_table M field ≡ fine
  unfolding field_table
  lent-field = long-met 5 _ _ masses_long

  lent-claim : claim_tables M field k ≡ fine
  unfolding claim_tables
  lent-claim = fine-all (claim_lengths M.cells M.faces k) (
    long-met 6 _ _ l.fluxes_long,
    (long-met 7 _ _ l.outsides_long, (long-met 8 _ _ l.nexts_long, (long-met 9 _ _ l.moveds_long, (long-met 14 _ _ l.releases_long, tt)))),
  )

  -- the same call with work of its own, as a step would be lent it
  abbrev worked : Call
  worked = call_of k.fluxes k.outsides k.nexts k.moveds (table (work_length M) (λ i. 0)) k.releases

  work_long : work_length M ≤ length worked.work
  work_long = omega (arith, length-table {A = ℕ} (work_length M) (λ i. 0))

  lent-step : step_tables M field worked ≡ fine
  unfolding step_tables
  lent-step =
      let later : AllFine (long 9 M.faces (length k.moveds) ∷ long 10 (work_length M) (length worked.work) ∷ long 14 M.cells (length k.releases)
      ∷ [])
      = (long-met 9 _ _ l.moveds_long, (long-met 10 _ _ work_long, (long-met 14 _ _ l.releases_long, tt))) in
      fine-all (step_lengths M.cells M.faces worked)
      (long-met 6 _ _ l.fluxes_long, (long-met 7 _ _ l.outsides_long, (long-met 8 _ _ l.nexts_long, later)))

  -- a step on it passes what the judging passes
  step-passes : verdict M field worked ≡ fine → ClaimPassed M field k
  unfolding raised_values raised_good step_values outside_good flux_good balance_good outflow_good
  step-passes e =
      let p = passed M field worked e in
      record {
        counts_fine = p.counts_fine;
        mesh_tables_fine = p.mesh_tables_fine;
        field_table_fine = p.field_table_fine;
        claim_tables_fine = lent-claim;
        mesh_values_fine = p.mesh_values_fine;
        field_values_fine = p.field_values_fine;
        raised_values_fine = p.raised_values_fine;
        step_values_fine = p.step_values_fine;
      }

-- The engine's own steps, by any such amounts.
module _ (y : StepInput → ℕ → ℤ) (own : Own y) where
  abbrev owned : Scheme
  owned = record { finds = verdict; moves = λ M field k. y (input_of M field k) }

  module _ (M M' : Mesh) (field field' : List ℕ) (k k' : Call) (e : verdict M field k ≡ fine) (h : HandedIn owned M M' field field' k k') where
    abbrev S : StepInput
    S = input_of M field k

    abbrev S' : StepInput
    S' = input_of M' field' k'

    abbrev with-work : Call
    with-work = worked M' field' k' h.mesh_lent h.masses_long h.claim_lent

    agreed : AgreeCall M M' field field' k with-work
    agreed = let a = h.same_step in record {
      mesh_agrees = a.mesh_agrees;
      masses = a.masses;
      fluxes = a.fluxes;
      outsides = a.outsides;
      releases =
          a.releases;
    }

    step_fine : verdict M' field' with-work ≡ fine
    step_fine =
        let p = passed M field k e in
        verdict-agree M M' field field' k with-work agreed
        (lent-mesh M' h.mesh_lent ∙ sym p.mesh_tables_fine)
        (lent-field M' field' k' h.mesh_lent h.masses_long h.claim_lent ∙ sym p.field_table_fine)
        (lent-step M' field' k' h.mesh_lent h.masses_long h.claim_lent ∙ sym p.step_tables_fine) ∙ e

    claim-passes : ClaimPassed M' field' k'
    claim-passes = step-passes M' field' k' h.mesh_lent h.masses_long h.claim_lent step_fine

    left_there : (f : ℕ) → f < M.faces → get_or (moved_table owned M k field) f (pos 0) ≡ y S f
    unfolding moved_table
    left_there f l = rw e (get_d_over M.faces (y S) k.moveds (pos 0) f l)

    faces_same : M'.faces ≡ M.faces
    faces_same = h.same_step.mesh_agrees.faces_same

    claims-own : (f : ℕ) → f < M'.faces → claimed k' f ≡ y S' f
    claims-own f l =
        let r = ready M field k e in
        let n : f < M.faces = omega (arith, faces_same) in
        h.as_moved f n ∙ left_there f n ∙ sym (own.own_agrees S S' r.counts_fit.few_cells r.fit (inputs-agree M M' field field' k k' h.same_step) f
        n)

    amounts-fine : amounts_verdict S' (claimed k') ≡ fine
    amounts-fine =
        let r = claim-ready M' field' k' claim-passes in
        keeps-fine S' (claimed k') (keeps_same S' (claimed k') (y S') claims-own (own.own_keeps S' r))
        (λ f l. rw (claims-own f l) (own.own_small S' r f l)) (λ f l z. claims-own f l ∙ own.own_still S' f z)

    claim-accepted : claim_verdict M' field' k' ≡ fine
    claim-accepted = passed-claim M' field' k' claim-passes amounts-fine

    answers-same : step_answer judged M' k' field' ≡ step_answer owned M k field
    unfolding step_answer
    answers-same =
        let r = ready M field k e in
        past _ claim-accepted
        ∙ ap accepted (crossing-agree M M' field field' k k' h.same_step r.counts_fit.few_cells r.fit)
        ∙ sym (past _ e)

    nexts_same : (c : ℕ) → c < M.cells → mass_in (next_table judged M' k' field') c ≡ mass_in (next_table owned M k field) c
    unfolding next_table updated
    nexts_same c l =
        let r = ready M field k e in
        let a = inputs-agree M M' field field' k k' h.same_step in
        let ends : (f : ℕ) → f < M.faces → (first M' f ≡ first M f) × (second M' f ≡ second M f) =
        λ f n. (a.mesh_agrees.firsts f n, a.mesh_agrees.seconds f n) in
        let amounts : (f : ℕ) → f < M.faces → claimed k' f ≡ y S f = λ f n. h.as_moved f n ∙ left_there f n in
        rw (claim-accepted, e) (
        get_d_over M'.cells (updated M' (mass S') (claimed k')) k'.nexts 0 c (omega (arith, a.mesh_agrees.cells_same))
        ∙ rw (a.masses c l, incoming-agree M M' faces_same ends (y S) (claimed k') amounts c, outgoing-agree M M' faces_same ends (y S) (claimed k') amounts c)
        (sym (get_d_over M.cells (updated M (mass S) (y S)) k.nexts 0 c l))
        )

  own-accepted : OwnAccepted owned
  own-accepted M M' field field' k k' e h = record {
    claim_fine = claim-accepted M M' field field' k k' e h;
    same_answer = answers-same M M' field field' k k' e h;
    same_next = nexts_same M M' field field' k k' e h;
  }

pub own-steps : OwnSteps
own-steps = record { corrected_accepted = own-accepted moved moved-own; plain_accepted = own-accepted carried carried-own }
