-- From the first passes of a step to causes 21 and 22 of a claim, and from these to the promise of the judging.
use Prim.Native.Nat.{ℕ, ◌^◌, ◌≤◌, ◌<◌}
use mathlib.Core.Path.{◌≡◌, refl, sym, ap, ◌∙◌}
use mathlib.Core.Bool.{not, ◌&&◌, ◌||◌}
use mathlib.Core.List.{List}
use native.Mathlib.Omega.{arith}
use borrow.Author.Tests.{leb-true}
use lib.Dec.{leb}
use lib.IntN.{ℤ, pos}
use lib.ListN.{length, get_or, replicate, length-replicate}
use Rattle.lists.specs.Fold.{sum}
use Rattle.lists.specs.Table.{table, over}
use Rattle.lists.proofs.Tests.{both_true}
use Rattle.lists.proofs.Tables.{table-cong}
use Rattle.signed.specs.Sign.{size, is_zero}
use Rattle.model.specs.Mesh.{Mesh, at_rim, incoming, outgoing, updated, total}
use Rattle.model.specs.Step.{StepInput, mass, flux, carried, lo, hi, in_mass, out_mass, released_mass}
use Rattle.model.specs.Causes.{accepted, refused, fine, each, faces_only, Call, water_of, input_of}
use Rattle.model.specs.Claims.{max_claim, claimed, same_amount, claim_good, bounds_good, amounts_verdict, unworked_verdict, claim_verdict}
use Rattle.model.specs.Answers.{told}
use Rattle.model.specs.Calls.{mass_in, step_answer, next_table}
use Rattle.model.specs.Accepted.{Ready}
use Rattle.model.specs.declared.Refusal.{Refusal}
use Rattle.model.proofs.Verdicts.{out, past, both-fine, refused-of, accepted-of, each-fine, each-cong}
use Rattle.model.proofs.Accepted.{second-most}
use Rattle.model.proofs.Raised.{raised_at}
use Rattle.model.proofs.Agree.{incoming-agree, outgoing-agree}
use Rattle.model.proofs.Sizes.{mass-most, total_most}
use Rattle.model.proofs.Claims.{claim-bounds}
use Rattle.check_flows.specs.Flows.{inflow, outflow, FacesFit, LongEnough}
use Rattle.step_carrying.specs.Carrying.{CarriedTo}
use Rattle.judging_claims.specs.Tests.{claim_at}
use Rattle.judging_bounds.specs.Bounds.{holds, next_at, Salted, Bordered, Affords, bounds_verdict}
use Rattle.transport.specs.Promise.{step_said}
use Rattle.transport.specs.declared.Crossed as crossed
use Rattle.judging.specs.Promise.{JudgePromise, amounts_answer}
use Rattle.std.specs.Prelude.{Result, Ok, Err}
use Rattle.transport.specs.declared.Crossed.{Crossed}

module _ (M : Mesh) (masses : List ℕ) (fluxes : List ℤ) (outsides releases : List ℕ) where
  abbrev S : StepInput
  S = input_of M masses (water_of fluxes outsides releases)

  module _ (r : Ready S) (masses_long : M.cells ≤ length masses) (releases_long : M.cells ≤ length releases) where
    holds-is : (c : ℕ) → c < M.cells → holds masses releases c ≡ mass S c
    holds-is c h = sym (raised_at M.cells masses releases c h)

    pub salted : Salted M.cells masses releases
    salted = record {
      few = r.counts_fit.few_cells;
      masses_long = masses_long;
      releases_long = releases_long;
      small = λ c h. rw (holds-is c h) (mass-most S r c h);
    }

    -- what the sum of the releases asks for
    pub released-asks : (M.cells ≤ length releases) × (sum M.cells (mass_in releases) < 2 ^ 64)
    unfolding total
    released-asks = (
      releases_long,
      omega (
        arith,
        total_most M (mass_in releases) r.counts_fit.few_cells (λ c h. omega (arith, mass-most S r c h, raised_at M.cells masses releases c h)),
      ),
    )

    module _ (claim : List ℤ) (claim-long : M.faces ≤ length claim) where
      abbrev x : ℕ → ℤ
      x f = get_or claim f (pos 0)

      pub long-enough : LongEnough M.faces M.firsts M.seconds claim M.cells M.volumes
      long-enough = (
        r.counts_fit.few_cells,
        r.counts_fit.few_faces,
        r.lent.volumes_long,
        r.lent.firsts_long,
        r.lent.seconds_long,
        claim-long,
      )

      -- past 21, a claim may be summed
      small : (f : ℕ) → f < M.faces → each 21 M.faces (claim_good S x) ≡ fine → size (x f) ≤ max_claim
      unfolding claim_good
      small f l e =
          let g = each-fine 21 M.faces (claim_good S x) e f l in
          let p = both_true (leb (size (x f)) max_claim && (not (is_zero (flux S f)) || is_zero (x f))) (not (at_rim M f) || same_amount (x f) (carried S f)) g in
          leb-true _ _ (both_true (leb (size (x f)) max_claim) (not (is_zero (flux S f)) || is_zero (x f)) p.0).0

      pub faces-fit : each 21 M.faces (claim_good S x) ≡ fine → FacesFit M.faces M.firsts M.seconds claim
      faces-fit e f l = (
        omega (arith, r.fit.first-in f l, r.counts_fit.few_cells),
        second-most M r.counts_fit.few_cells r.fit f l,
        small f l e,
      )

      -- what the claim brings into a cell, and takes from it
      into-is : (c : ℕ) → inflow M.faces M.firsts M.seconds claim c ≡ incoming M x c
      into-is = incoming-agree M (faces_only M.faces M.firsts M.seconds) refl (λ f l. (refl, refl)) x x (λ f l. refl)

      out-is : (c : ℕ) → outflow M.faces M.firsts M.seconds claim c ≡ outgoing M x c
      out-is = outgoing-agree M (faces_only M.faces M.firsts M.seconds) refl (λ f l. (refl, refl)) x x (λ f l. refl)

      -- past 22, it may be taken
      pub affords : amounts_verdict S x ≡ fine
          → Affords M.cells masses releases (inflow M.faces M.firsts M.seconds claim) (outflow M.faces M.firsts M.seconds claim)
      affords e c h = rw (into-is c, out-is c, holds-is c h) (claim-bounds S x e c h).0

      pub next_is : (next : List ℕ)
          → over (table M.cells (next_at masses releases (inflow M.faces M.firsts M.seconds claim)
          (outflow M.faces M.firsts M.seconds claim))) next
          ≡ over (table M.cells (updated M (mass S) x)) next
      unfolding updated
      next_is next = ap (λ (t : List ℕ). over t next) (table-cong 0 M.cells _ _ (λ c h. rw (into-is c, out-is c, holds-is c h)))

      -- the first passes hold what 21 and 22 ask for
      module _ (entered gone : ℕ) (low work : List ℕ) (said-masses : List ℤ) (s : CarriedTo S M.faces entered gone low said-masses work) where
        pub bordered : Bordered M.cells M.volumes work
        bordered = record { volumes_long = r.lent.volumes_long; volume_some = r.fit.volume_some; work_long = omega (arith, s.work_long) }

        pub claims-are : each 21 M.faces (claim_at M.seconds fluxes said-masses claim) ≡ each 21 M.faces (claim_good S x)
        unfolding claim_good
        claims-are = each-cong 21 M.faces _ _ (λ f l. rw (s.moved_at f l))

        pub bounds-are : bounds_verdict M.cells M.faces M.volumes M.firsts M.seconds masses claim releases work
            ≡ each 22 M.cells (bounds_good S x)
        unfolding bounds_good lo hi
        bounds-are = each-cong 22 M.cells _ _ (λ c h. rw (s.lo_at c h, s.hi_at c h, into-is c, out-is c, holds-is c h))

        -- the answers
        pub refused-21 : {i j : ℕ} → each 21 M.faces (claim_at M.seconds fluxes said-masses claim) ≡ refused i j → refused i j
            ≡ amounts_answer S claim releases
        unfolding amounts_verdict
        refused-21 e = sym (out _ (out _ (sym claims-are ∙ e)))

        pub refused-22 : {i j : ℕ} → each 21 M.faces (claim_at M.seconds fluxes said-masses claim) ≡ fine
            → bounds_verdict M.cells M.faces M.volumes M.firsts M.seconds masses claim releases work ≡ refused i j → refused i j
            ≡ amounts_answer S claim releases
        unfolding amounts_verdict
        refused-22 e d = sym (out _ (past _ (sym claims-are ∙ e) ∙ sym bounds-are ∙ d))

        pub both-passed : each 21 M.faces (claim_at M.seconds fluxes said-masses claim) ≡ fine
            → bounds_verdict M.cells M.faces M.volumes M.firsts M.seconds masses claim releases work ≡ fine
            → (released : ℕ) → released ≡ sum M.cells (mass_in releases)
            → accepted (record { entered = entered; gone = gone; released = released }) ≡ amounts_answer S claim releases
        unfolding amounts_verdict in_mass out_mass released_mass
        both-passed e d released l = rw (l, s.entered_is, s.gone_is) (sym (past _ (past _ (sym claims-are ∙ e) ∙ sym bounds-are ∙ d)))

-- the promise: refused by the causes of a step, refused by 21 or 22, or accepted
module _ (M : Mesh) (masses : List ℕ) (k : Call) where
  pub refused-first : (r : Refusal) → unworked_verdict M masses k ≡ told r → JudgePromise M masses k (Err r) k.nexts
  unfolding step_answer next_table claim_verdict
  refused-first r e =
      let v : claim_verdict M masses k ≡ told r = out _ e in
      record { answer = sym (out _ v); next_masses = rw v }

  module _ (u : unworked_verdict M masses k ≡ fine) (a : Result Crossed Refusal) (says : step_said a ≡ amounts_answer (input_of M masses k) k.moveds k.releases) where
    pub refused-last : {r : Refusal} → a ≡ Err r → JudgePromise M masses k (Err r) k.nexts
    unfolding step_answer next_table claim_verdict
    refused-last {r} g =
        let e : amounts_verdict (input_of M masses k) (claimed k) ≡ told r =
        refused-of (amounts_verdict (input_of M masses k) (claimed k)) _ _ _ (sym (ap step_said g) ∙ says) in
        let v : claim_verdict M masses k ≡ told r = past _ u ∙ e in
        record { answer = sym (out _ v); next_masses = rw v }

    module _ {b : crossed.Crossed} (g : a ≡ Ok b) where
      pub amounts-fine : amounts_verdict (input_of M masses k) (claimed k) ≡ fine
      amounts-fine = (accepted-of (amounts_verdict (input_of M masses k) (claimed k)) _ _ (sym (ap step_said g) ∙ says)).0

      pub first_fine : each 21 M.faces (claim_good (input_of M masses k) (claimed k)) ≡ fine
      unfolding amounts_verdict
      first_fine = (both-fine _ _ amounts-fine).0

      pub accepted-last : (next : List ℕ) → next ≡ over (table M.cells (updated M (mass (input_of M masses k)) (claimed k))) k.nexts
          → JudgePromise M masses k (Ok b) next
      unfolding step_answer next_table claim_verdict
      accepted-last next q =
          let v : claim_verdict M masses k ≡ fine = past _ u ∙ amounts-fine in
          record { answer = sym (ap step_said g) ∙ says ∙ past _ amounts-fine ∙ sym (past _ v); next_masses = rw v q }

-- room in an array for a table of n entries
pub room : {A : Type 0} (n m : ℕ) (x : A) → n ≤ m → n ≤ length (replicate m x)
room n m x h = rw (length-replicate m x) h
