-- Demand 3 over an abstract kind of call, and the step on tables as such a call.
use Prim.Native.Nat.{ℕ, ◌+◌, ◌≤◌, ◌<◌}
use mathlib.Core.Path.{◌≡◌, refl, ◌∙◌}
use mathlib.Core.List.{List, [], ◌∷◌}
use native.Mathlib.Nat.{le_trans}
use native.Mathlib.Omega.{arith}
use lib.IntN.{ℤ}
use lib.ListN.{length, get_or-append}
use Rattle.lists.specs.Table.{table, over}
use Rattle.lists.proofs.Sums.{sum-cong}
use Rattle.lists.proofs.Tables.{length-table, get_or-table, length_over, get_d_over}
use Rattle.model.specs.Mesh.{Mesh, updated, total}
use Rattle.model.specs.Step.{StepInput, mass, in_mass, out_mass, released_mass}
use Rattle.model.specs.Causes.{Outcome, accepted, refused, fine, Call, input_of, field_verdict, verdict}
use Rattle.model.specs.Calls.{mass_in, Bounded, Left, field_after, entered_by, gone_by, released_by, crossing_of, Scheme, corrected, plain, lent_masses, next_table, step_on_tables, after_all, total_in, total_out, total_released, EachStep, ListClaim, Deed, stepped, given_back, store_only, stepping, field_by, Account, starts_at, account_by, last_field, last_account, EachCall, Ledger}
use Rattle.model.proofs.Verdicts.{both-fine}
use Rattle.model.proofs.Next.{Keeps, amounts-budget, moved_keeps, carried_keeps}
use Rattle.model.proofs.Raised.{raised-sum}
use Rattle.model.proofs.Accepted.{ready, passed, call-lent, field_accepted, hi-most}
use Rattle.model.specs.Accepted.{Ready}

-- what one accepted call owes: its own budget, P, and an accepted field
pub record Fair (M : Mesh) (P : Type 0) (field : List ℕ) (l : Left) : Type 0 where
  pub budget : total M (mass_in l.field) + l.crossing.gone ≡ total M (mass_in field) + l.crossing.entered + l.crossing.released
  pub holds : P
  pub field_accepted : field_verdict M l.field ≡ fine

-- what a call of a list owes that does this: P, and of a step that it is fair, of a field given back that it is accepted
abbrev pub Owes : Mesh → Type 0 → List ℕ → Outcome Deed → Type 0
Owes M P field (accepted (stepped l)) = Fair M P field l
Owes M P field (accepted (given_back back)) = P × (field_verdict M back ≡ fine)
Owes M P field (accepted store_only) = P
Owes M P field (refused i j) = P

-- From each call to every list of calls, where C holds of each call on the field lent to it: as that it kept its contract.
module _ (M : Mesh) {K : Type 0} (does : K → List ℕ → Outcome Deed) (C : K → List ℕ → Type 0) (P : K → List ℕ → Outcome Deed → Type 0)
    (owes : (k : K) (field : List ℕ) → C k field → field_verdict M field ≡ fine → (o : Outcome Deed) → does k field ≡ o → Owes M (P k field o) field o) where
  -- the budget stands at a field
  abbrev Stands : List ℕ → Account → Type 0
  Stands field a = total M (mass_in field) + a.since.gone ≡ a.start + a.since.entered + a.since.released

  one-stands : (k : K) (field : List ℕ) → C k field → field_verdict M field ≡ fine → (a : Account) → Stands field a → (o : Outcome Deed) → does k field ≡ o
      → Stands (field_by o field) (account_by M o a)
  one-stands k field c g a s (accepted (stepped l)) e = omega (arith, (owes k field c g (accepted (stepped l)) e).budget, s)
  one-stands k field c g a s (accepted (given_back back)) e = omega arith
  one-stands k field c g a s (accepted store_only) e = s
  one-stands k field c g a s (refused i j) e = s

  one_accepted : (k : K) (field : List ℕ) → C k field → field_verdict M field ≡ fine → (o : Outcome Deed) → does k field ≡ o
      → field_verdict M (field_by o field) ≡ fine
  one_accepted k field c g (accepted (stepped l)) e = (owes k field c g (accepted (stepped l)) e).field_accepted
  one_accepted k field c g (accepted (given_back back)) e = (owes k field c g (accepted (given_back back)) e).1
  one_accepted k field c g (accepted store_only) e = g
  one_accepted k field c g (refused i j) e = g

  one_holds : (k : K) (field : List ℕ) → C k field → field_verdict M field ≡ fine → (o : Outcome Deed) → does k field ≡ o → P k field o
  one_holds k field c g (accepted (stepped l)) e = (owes k field c g (accepted (stepped l)) e).holds
  one_holds k field c g (accepted (given_back back)) e = (owes k field c g (accepted (given_back back)) e).0
  one_holds k field c g (accepted store_only) e = owes k field c g (accepted store_only) e
  one_holds k field c g (refused i j) e = owes k field c g (refused i j) e

  all-stand : (a : Account) (field : List ℕ) → field_verdict M field ≡ fine → Stands field a → (ks : List K) → EachCall M does C field ks
      → Stands (last_field M does field ks) (last_account M does a field ks)
  unfolding last_field last_account
  all-stand a field g s [] c = s
  all-stand a field g s (k ∷ ks) c = all-stand (account_by M (does k field) a) (field_by (does k field) field) (one_accepted k field c.0 g (does k field) refl)
      (one-stands k field c.0 g a s (does k field) refl) ks c.1

  all_hold : (field : List ℕ) → field_verdict M field ≡ fine → (ks : List K) → EachCall M does C field ks
      → EachCall M does (λ k before. P k before (does k before)) field ks
  all_hold field g [] c = tt
  all_hold field g (k ∷ ks) c = (
    one_holds k field c.0 g (does k field) refl,
    all_hold (field_by (does k field) field) (one_accepted k field c.0 g (does k field) refl) ks c.1,
  )

  all-accepted : (field : List ℕ) → field_verdict M field ≡ fine → (ks : List K) → EachCall M does C field ks → field_verdict M (last_field M does field ks) ≡ fine
  unfolding last_field
  all-accepted field g [] c = g
  all-accepted field g (k ∷ ks) c = all-accepted (field_by (does k field) field) (one_accepted k field c.0 g (does k field) refl) ks c.1

  pub ledger-law : (field : List ℕ) → field_verdict M field ≡ fine → (ks : List K) → EachCall M does C field ks → Ledger M does P field ks
  ledger-law field g ks c = record {
    budget = all-stand (starts_at M field) field g (omega arith) ks c;
    each_call = all_hold field g ks c;
    field_accepted = all-accepted field g ks c;
  }

-- The same of lists of steps alone.
module _ (M : Mesh) {K : Type 0} (comes : K → List ℕ → Outcome Left) (C : K → List ℕ → Type 0) (P : K → List ℕ → Outcome Left → Type 0)
    (owes : (k : K) (field : List ℕ) → C k field → field_verdict M field ≡ fine → (o : Outcome Left) → comes k field ≡ o
    → Owes M (P k field o) field (stepping o)) where
  step-closes : (k : K) (field : List ℕ) → C k field → field_verdict M field ≡ fine → (o : Outcome Left) → comes k field ≡ o
      → total M (mass_in (field_after o field)) + gone_by o ≡ total M (mass_in field) + entered_by o + released_by o
  step-closes k field c g (accepted l) e = (owes k field c g (accepted l) e).budget
  step-closes k field c g (refused i j) e = omega arith

  step-accepted : (k : K) (field : List ℕ) → C k field → field_verdict M field ≡ fine → (o : Outcome Left) → comes k field ≡ o
      → field_verdict M (field_after o field) ≡ fine
  step-accepted k field c g (accepted l) e = (owes k field c g (accepted l) e).field_accepted
  step-accepted k field c g (refused i j) e = g

  step_holds : (k : K) (field : List ℕ) → C k field → field_verdict M field ≡ fine → (o : Outcome Left) → comes k field ≡ o → P k field o
  step_holds k field c g (accepted l) e = (owes k field c g (accepted l) e).holds
  step_holds k field c g (refused i j) e = owes k field c g (refused i j) e

  pub list-claim : (field : List ℕ) → field_verdict M field ≡ fine → (ks : List K) → EachStep comes C field ks → ListClaim M comes P field ks
  unfolding after_all total_in total_out total_released
  list-claim field g [] c = record { budget = omega arith; each_call = tt; field_accepted = g }
  list-claim field g (k ∷ ks) c =
      let rest = list-claim (field_after (comes k field) field) (step-accepted k field c.0 g (comes k field) refl) ks c.1 in
      record {
        budget = omega (arith, step-closes k field c.0 g (comes k field) refl, rest.budget);
        each_call = (step_holds k field c.0 g (comes k field) refl, rest.each_call);
        field_accepted = rest.field_accepted;
      }

-- a field whose counted masses are those after the amounts x of a step that is ready keeps the budget and the bounds; the step started from
-- another field, raised by what was released
module _ (S : StepInput) (r : Ready S) (x : ℕ → ℤ) (keeps : Keeps S x) (field : List ℕ) (released : ℕ)
    (raised_by : total S.mesh (mass S) ≡ total S.mesh (mass_in field) + released) (after : List ℕ) (long : S.mesh.cells ≤ length after)
    (is-next : (c : ℕ) → c < S.mesh.cells → mass_in after c ≡ updated S.mesh (mass S) x c) where
  open S use {mesh as M}

  after-bounded : Bounded S after
  after-bounded c h = rw (is-next c h) (keeps.bounds c h)

  pub amounts-fair : (l : Left) → l.field ≡ after → l.crossing ≡ record { entered = in_mass S; gone = out_mass S; released = released }
      → Fair M (Bounded S l.field) field l
  unfolding total
  amounts-fair l e i = record {
    budget = rw (e, i) (omega (arith, amounts-budget S x keeps r.sound, raised_by, sum-cong M.cells (mass_in after) (updated M (mass S) x) is-next));
    holds = rw e after-bounded;
    field_accepted = rw e (field_accepted M after long (λ c h. le_trans (after-bounded c h).1 (hi-most S r c h)));
  }

-- a scheme whose accepted calls are ready, have room for the next masses, and keep what amounts owe
pub record Keeping (s : Scheme) : Type 0 where
  pub readies : (M : Mesh) (field : List ℕ) (k : Call) → s.finds M field k ≡ fine → Ready (input_of M field k)
  pub nexts_long : (M : Mesh) (field : List ℕ) (k : Call) → s.finds M field k ≡ fine → M.cells ≤ length k.nexts
  pub keeps : (M : Mesh) (field : List ℕ) (k : Call) → s.finds M field k ≡ fine → Keeps (input_of M field k) (s.moves M field k)

-- past the causes of a step
step-nexts : (M : Mesh) (field : List ℕ) (k : Call) → verdict M field k ≡ fine → M.cells ≤ length k.nexts
step-nexts M field k e = (call-lent M field k (passed M field k e).step_tables_fine).nexts_long

pub corrected-keeping : Keeping corrected
corrected-keeping = record { readies = ready; nexts_long = step-nexts; keeps = λ M field k e. moved_keeps (input_of M field k) (ready M field k e).sound }

pub plain-keeping : Keeping plain
plain-keeping = record { readies = ready; nexts_long = step-nexts; keeps = λ M field k e. carried_keeps (input_of M field k) (ready M field k e).sound }

-- releases bring their sum into the field
pub raised-total : (M : Mesh) (field : List ℕ) (k : Call)
    → total M (mass (input_of M field k)) ≡ total M (mass_in field) + released_mass M.cells k.releases
unfolding total
raised-total M field k = raised-sum M.cells field k.releases

-- a step on tables, by such a scheme
module _ (s : Scheme) (keeping : Keeping s) (M : Mesh) (k : Call) (field : List ℕ) (l : Left) (e : step_on_tables s M k field ≡ accepted l) where
  pub found-fine : s.finds M field k ≡ fine
  unfolding step_on_tables
  found-fine = (both-fine _ _ e).0

  left_is : record { field = next_table s M k field; crossing = crossing_of M field k } ≡ l
  unfolding step_on_tables
  left_is = let d = (both-fine _ _ e).1 in cc

  result : List ℕ
  result = over (table M.cells (updated M (mass (input_of M field k)) (s.moves M field k))) k.nexts

  table_is : next_table s M k field ≡ result
  unfolding next_table result
  table_is = rw found-fine

  pub left-mass : (c : ℕ) → c < M.cells → mass_in l.field c ≡ updated M (mass (input_of M field k)) (s.moves M field k) c
  unfolding result
  left-mass c h = rw (← left_is, table_is) (get_d_over M.cells (updated M (mass (input_of M field k)) (s.moves M field k)) k.nexts 0 c h)

  pub tables-fair : Fair M (Bounded (input_of M field k) l.field) field l
  unfolding result
  tables-fair =
      let n = keeping.nexts_long M field k found-fine in
      let after : ℕ → ℕ = updated M (mass (input_of M field k)) (s.moves M field k) in
      amounts-fair (input_of M field k) (keeping.readies M field k found-fine) (s.moves M field k) (keeping.keeps M field k found-fine)
      field (released_mass M.cells k.releases) (raised-total M field k) result
      (rw (length_over M.cells after k.nexts n) n)
      (λ c h. get_d_over M.cells after k.nexts 0 c h)
      l (rw (← left_is) table_is) (rw (← left_is))

-- the table of masses lent to a call holds the field
pub lent_same : (M : Mesh) (past field : List ℕ) (c : ℕ) → c < M.cells → mass_in (lent_masses M past field) c ≡ mass_in field c
lent_same M past field c h =
    get_or-append (table M.cells (mass_in field)) past 0 c (omega (arith, length-table M.cells (mass_in field)))
    ∙ get_or-table M.cells (mass_in field) 0 c h
