-- Document 01, "Tables lent to a step" and "A list of steps": what a step call leaves, and demand 3 about any calls that are lent a
-- field and are refused, or leave another field.
use Rattle.std.specs.Prelude.{ℕ, ◌+◌, ◌/◌, ◌≤◌, ◌<◌, ◌≡◌, List, [], ◌∷◌, ◌++◌, get_or, ℤ}
use Rattle.lists.specs.Table.{table, over}
use Rattle.model.specs.Mesh.{Mesh, volume, updated, total}
use Rattle.model.specs.Step.{StepInput, mass, lo, hi, carried, moved, in_mass, out_mass, released_mass}
use Rattle.model.specs.Causes.{Outcome, accepted, refused, Verdict, granted, fine, ◌and_then◌, Call, input_of, work_length, field_verdict, verdict}
use Rattle.model.specs.Claims.{claimed, claim_verdict}

-- the mass that a field has in cell c
abbrev pub mass_in : List ℕ → ℕ → ℕ
mass_in field c = get_or field c 0

-- Demand 3, the bounds: q after a step lies between lo and hi of before it, of the raised field where there are releases.
abbrev pub Bounded : StepInput → List ℕ → Type 0
Bounded S after = (c : ℕ) → c < S.mesh.cells
    → (lo S c ≤ mass_in after c / volume S.mesh c) × (mass_in after c / volume S.mesh c ≤ hi S c)

-- A step's in-mass and out-mass, and document 02's S-6: its released mass.
pub record Crossing : Type 0 where
  pub entered : ℕ
  pub gone : ℕ
  pub released : ℕ

abbrev pub crossing_of : Mesh → List ℕ → Call → Crossing
crossing_of M field k =
    record { entered = in_mass (input_of M field k); gone = out_mass (input_of M field k); released = released_mass M.cells k.releases }

-- What an accepted call leaves: the field, and what came in and went out.
pub record Left : Type 0 where
  pub field : List ℕ
  pub crossing : Crossing

-- "A list of steps": the field after a call that comes to this, refused or not
abbrev pub field_after : Outcome Left → List ℕ → List ℕ
field_after (accepted l) field = l.field
field_after (refused _ _) field = field

abbrev pub entered_by : Outcome Left → ℕ
entered_by (accepted l) = l.crossing.entered
entered_by (refused _ _) = 0

abbrev pub gone_by : Outcome Left → ℕ
gone_by (accepted l) = l.crossing.gone
gone_by (refused _ _) = 0

abbrev pub released_by : Outcome Left → ℕ
released_by (accepted l) = l.crossing.released
released_by (refused _ _) = 0

-- A way to make a step: what it finds in a call, and the amounts that it moves through the faces.
pub record Scheme : Type 0 where
  pub finds : Mesh → List ℕ → Call → Verdict
  pub moves : Mesh → List ℕ → Call → ℕ → ℤ

-- "One step": causes 1 to 10 and 18, and the moved masses of stage 5
abbrev pub corrected : Scheme
corrected = record { finds = verdict; moves = λ M field k. moved (input_of M field k) }

-- Document 02, S-8: the same causes, and no stage between the first and the fifth, so that the moved masses are the carried ones
abbrev pub plain : Scheme
plain = record { finds = verdict; moves = λ M field k. carried (input_of M field k) }

-- Document 02, S-11: another model's step, of which the moved masses are claimed and lent; its causes end in 21 and 22
abbrev pub judged : Scheme
judged = record { finds = claim_verdict; moves = λ M field k. claimed k }

-- What a step call on tables answers: its crossing where no cause applies.
module _ (s : Scheme) (M : Mesh) (k : Call) (field : List ℕ) where
  unfoldable pub step_answer : Outcome Crossing
  step_answer = s.finds M field k and_then accepted (crossing_of M field k)

  -- "Tables lent to a step": after acceptance the results in the counted parts of next masses and moved, zeros in that of work
  unfoldable pub next_table : List ℕ
  next_table = granted (s.finds M field k) (over (table M.cells (updated M (mass (input_of M field k)) (s.moves M field k))) k.nexts) k.nexts

  unfoldable pub moved_table : List ℤ
  moved_table = granted (s.finds M field k) (over (table M.faces (s.moves M field k)) k.moveds) k.moveds

  unfoldable pub work_table : List ℕ
  work_table = granted (s.finds M field k) (over (table (work_length M) (λ i. 0)) k.work) k.work

  -- the same call as one of a list
  unfoldable pub step_on_tables : Outcome Left
  step_on_tables = s.finds M field k and_then accepted (record { field = next_table; crossing = crossing_of M field k })

-- "A list of steps": the table of masses lent to a call on tables, the field with anything past it
abbrev pub lent_masses : Mesh → List ℕ → List ℕ → List ℕ
lent_masses M past field = table M.cells (mass_in field) ++ past

-- Calls of some kind K, each with what it comes to on the field that it is lent.
module _ {K : Type 0} (comes : K → List ℕ → Outcome Left) where
  -- The calls run one after another: the field after all of them, and the in-, out- and released masses of those accepted.
  unfoldable pub after_all : List ℕ → List K → List ℕ
  after_all field [] = field
  after_all field (k ∷ ks) = after_all (field_after (comes k field) field) ks

  unfoldable pub total_in : List ℕ → List K → ℕ
  total_in field [] = 0
  total_in field (k ∷ ks) = entered_by (comes k field) + total_in (field_after (comes k field) field) ks

  unfoldable pub total_out : List ℕ → List K → ℕ
  total_out field [] = 0
  total_out field (k ∷ ks) = gone_by (comes k field) + total_out (field_after (comes k field) field) ks

  unfoldable pub total_released : List ℕ → List K → ℕ
  total_released field [] = 0
  total_released field (k ∷ ks) = released_by (comes k field) + total_released (field_after (comes k field) field) ks

  -- P holds of each call of a list and of the field lent to it.
  abbrev pub EachStep : (K → List ℕ → Type 0) → List ℕ → List K → Type 0
  EachStep P field [] = Unit {0}
  EachStep P field (k ∷ ks) = P k field × EachStep P (field_after (comes k field) field) ks

-- Demand 3: the budget over all calls; what P says of each call, of the field lent to it and of what it comes to, as the bounds of a step that
-- is accepted; and the field is an accepted one again.
pub record ListClaim (M : Mesh) {K : Type 0} (comes : K → List ℕ → Outcome Left) (P : K → List ℕ → Outcome Left → Type 0)
    (field : List ℕ) (ks : List K) : Type 0 where
  pub budget : total M (mass_in (after_all comes field ks)) + total_out comes field ks
      ≡ total M (mass_in field) + total_in comes field ks + total_released comes field ks
  pub each_call : EachStep comes (λ k before. P k before (comes k before)) field ks
  pub field_accepted : field_verdict M (after_all comes field ks) ≡ fine

-- Document 02, S-4: lists that hold calls on a store beside steps. What an accepted call does: it makes a step; it gives a field back; or it
-- leaves the field alone, as a keep and a drop do.
pub data Deed : Type 0 where
  stepped : Left → Deed
  given_back : List ℕ → Deed
  store_only : Deed

-- a step as such a call
abbrev pub stepping : Outcome Left → Outcome Deed
stepping (accepted l) = accepted (stepped l)
stepping (refused i j) = refused i j

-- the field after a call that comes to this
abbrev pub field_by : Outcome Deed → List ℕ → List ℕ
field_by (accepted (stepped l)) field = l.field
field_by (accepted (given_back back)) field = back
field_by (accepted store_only) field = field
field_by (refused _ _) field = field

-- The salt budget: the total that it starts from, and what came in and went out since then.
pub record Account : Type 0 where
  pub start : ℕ
  pub since : Crossing

module _ (M : Mesh) where
  abbrev pub starts_at : List ℕ → Account
  starts_at field = record { start = total M (mass_in field); since = record { entered = 0; gone = 0; released = 0 } }

  -- a step counts on, a return starts anew from the total of the masses given back
  abbrev pub account_by : Outcome Deed → Account → Account
  account_by (accepted (stepped l)) a = record {
    start = a.start;
    since = record {
      entered = a.since.entered + l.crossing.entered;
      gone = a.since.gone + l.crossing.gone;
      released = a.since.released + l.crossing.released;
    };
  }
  account_by (accepted (given_back back)) a = starts_at back
  account_by (accepted store_only) a = a
  account_by (refused _ _) a = a

  module _ {K : Type 0} (does : K → List ℕ → Outcome Deed) where
    -- field and budget after all calls, one after another
    unfoldable pub last_field : List ℕ → List K → List ℕ
    last_field field [] = field
    last_field field (k ∷ ks) = last_field (field_by (does k field) field) ks

    unfoldable pub last_account : Account → List ℕ → List K → Account
    last_account a field [] = a
    last_account a field (k ∷ ks) = last_account (account_by (does k field) a) (field_by (does k field) field) ks

    -- P holds of each call of a list and of the field lent to it.
    abbrev pub EachCall : (K → List ℕ → Type 0) → List ℕ → List K → Type 0
    EachCall P field [] = Unit {0}
    EachCall P field (k ∷ ks) = P k field × EachCall P (field_by (does k field) field) ks

    -- Demand 3 of such a list: the budget since the last return; what P says of each call; and the field is an accepted one again.
    pub record Ledger (P : K → List ℕ → Outcome Deed → Type 0) (field : List ℕ) (ks : List K) : Type 0 where
      pub budget : total M (mass_in (last_field field ks)) + (last_account (starts_at field) field ks).since.gone
          ≡ (last_account (starts_at field) field ks).start + (last_account (starts_at field) field ks).since.entered
          + (last_account (starts_at field) field ks).since.released
      pub each_call : EachCall (λ k before. P k before (does k before)) field ks
      pub field_accepted : field_verdict M (last_field field ks) ≡ fine
