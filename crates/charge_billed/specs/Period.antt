-- Document 02, S-13: the totals of a period, of steps as they were made and answered, each accepted one added once.
use Rattle.std.specs.Prelude.{ℕ, ◌+◌, ◌<◌, ◌≡◌, true, false, cond, List, [], ◌∷◌, ℤ, pos, get_or, Result, Ok}
use Rattle.lists.specs.Fold.{sum}
use Rattle.signed.specs.Sign.{forward}
use Rattle.model.specs.Mesh.{Mesh, at_rim}
use Rattle.model.specs.Causes.{Outcome, granted, Call}
use Rattle.model.specs.Calls.{Left, total_out}
use Rattle.transport.specs.Promise.{scheme_of, step_said, left_by, StepPromise}
use Rattle.transport.specs.declared.Way.{Way}
use Rattle.judging.specs.Promise.{JudgePromise}
use Rattle.charge_totals.specs.Totals.{AddPromise}
use Rattle.model.specs.declared.Refusal.{Refusal}
use Rattle.transport.specs.declared.Crossed.{Crossed}

-- by `step`, corrected or plain, or claimed by another model and judged by `judge` (S-11)
pub data Source : Type 0 where
  by_step : Way → Source
  by_judge : Source

-- A call of one of these: the masses and the other tables lent to it, of any values and of any length; its answer; its next masses, moved and
-- work afterwards; and the totals after it was added, if it was. Of a judging the claim is lent as moved, and work means nothing.
pub record Made : Type 0 where
  pub source : Source
  pub masses : List ℕ
  pub tables : Call
  pub answer : Result Crossed Refusal
  pub next : List ℕ
  pub moved : List ℤ
  pub work : List ℕ
  pub added : List ℕ

-- what the step came to, as one of a list of calls
abbrev pub came_to : Made → List ℕ → Outcome Left
came_to m field = left_by (step_said m.answer) m.next

-- the period totals after it: a refused step is not added
abbrev pub totals_after : Made → List ℕ → List ℕ
totals_after m totals = granted (step_said m.answer) m.added totals

-- what each call promises; a judging leaves the claim as it was
abbrev pub Promised : Mesh → Made → Source → Type 0
Promised M m (by_step way) = StepPromise (scheme_of way) M m.masses m.tables m.answer m.next m.moved m.work
Promised M m by_judge = JudgePromise M m.masses m.tables m.answer m.next × (m.moved ≡ m.tables.moveds)

-- Each step kept its contract; each accepted one was then added, by a call of `add` that was lent the same seconds, the moved masses as the step
-- left them and the totals as the last adding left them, and that answered done. Nobody else writes the totals.
abbrev pub KeptOn : Mesh → List ℕ → List Made → Type 0
KeptOn M totals [] = Unit {0}
KeptOn M totals (m ∷ ms) =
    Promised M m m.source
    × granted (step_said m.answer) (AddPromise M.seconds m.moved totals M.faces (Ok tt) m.added) (Unit {0})
    × KeptOn M (totals_after m totals) ms

-- the totals at the period's end
unfoldable pub last_totals : List ℕ → List Made → List ℕ
last_totals totals [] = totals
last_totals totals (m ∷ ms) = last_totals (totals_after m totals) ms

-- what the accepted steps moved outward over face f; inward mass is not set against it
unfoldable pub moved_out : List Made → ℕ → ℕ
moved_out [] f = 0
moved_out (m ∷ ms) f = granted (step_said m.answer) (forward (get_or m.moved f (pos 0))) 0 + moved_out ms f

-- What the ports are charged for: over each rim face what moved outward there, and nothing elsewhere. All rim faces together it is the out-mass
-- of the accepted steps, as demand 3 counts it: the bill and the salt budget speak of the same salt. (The out-mass of a list of calls that have
-- come to something does not rest on the field that it begins with.)
pub record PeriodTotals (M : Mesh) (calls : List Made) (totals : List ℕ) : Type 0 where
  pub rim_entry : (f : ℕ) → f < M.faces → at_rim M f ≡ true → get_or totals f 0 ≡ moved_out calls f
  pub interior_entry : (f : ℕ) → f < M.faces → at_rim M f ≡ false → get_or totals f 0 ≡ 0
  pub all_out : (field : List ℕ) → sum M.faces (λ f. cond (at_rim M f) (get_or totals f 0) 0) ≡ total_out came_to field calls

-- of every list of steps, from totals that are all 0
abbrev pub OverAPeriod : Type 0
OverAPeriod = (M : Mesh) (totals : List ℕ) (calls : List Made) → ((f : ℕ) → f < M.faces → get_or totals f 0 ≡ 0) → KeptOn M totals calls
    → PeriodTotals M calls (last_totals totals calls)
