-- Document 02, S-13: the totals of a period, of steps that a host in C made on tables, each accepted one added once by `lagoon_add`.
use Rattle.std.specs.Prelude.{ℕ, ◌+◌, ◌<◌, ◌≡◌, true, false, cond, List, [], ◌∷◌, ℤ, pos, get_or}
use Rattle.lists.specs.Fold.{sum}
use Rattle.signed.specs.Sign.{forward}
use Rattle.model.specs.Mesh.{Mesh, at_rim}
use Rattle.model.specs.Causes.{Outcome, accepted, ◌and_then◌, granted, Call}
use Rattle.model.specs.Calls.{Left, crossing_of, total_out}
use Rattle.transport.specs.Promise.{scheme_of}
use Rattle.charge_billed.specs.Period.{Source, by_step, by_judge}
use Rattle.host_answer.specs.Steps.{StepFromC, JudgeFromC}
use Rattle.host_period_promises.specs.Period.{AddFromC}
use Rattle.promises.specs.Steps.{host_said}

-- A call of `lagoon_table_step`, `lagoon_table_plain_step` or `lagoon_table_judge`: what it was lent, of any values and of any length; its number;
-- its tables and what is found afterwards; and the totals after it was added, if it was. Of a judging the claim is lent as moved, and work means nothing.
pub record Made : Type 0 where
  pub source : Source
  pub masses : List ℕ
  pub tables : Call
  pub found : List ℕ
  pub number : ℕ
  pub next : List ℕ
  pub moved : List ℤ
  pub work : List ℕ
  pub found_after : List ℕ
  pub added : List ℕ

-- the period totals after it: a refused step is not added
abbrev pub totals_after : Made → List ℕ → List ℕ
totals_after m totals = granted (host_said m.number) m.added totals

module _ (M : Mesh) where
  -- what the step came to, as one of a list of calls; its crossing is what it tells a host that asks
  abbrev pub came_to : Made → List ℕ → Outcome Left
  came_to m field = host_said m.number and_then accepted (record { field = m.next; crossing = crossing_of M m.masses m.tables })

  -- what each call promises; a judging leaves the claim as it was
  abbrev pub Promised : Made → Source → Type 0
  Promised m (by_step way) = StepFromC (scheme_of way) M m.masses m.tables m.found m.number m.next m.moved m.work m.found_after
  Promised m by_judge = JudgeFromC M m.masses m.tables m.found m.number m.next m.found_after × (m.moved ≡ m.tables.moveds)

  -- Each step kept its contract; each accepted one was then added, by a call of `lagoon_add` that was lent the same seconds, the moved masses as
  -- the step left them and the totals as the last adding left them, and that answered 0.
  abbrev pub KeptOn : List ℕ → List Made → Type 0
  KeptOn totals [] = Unit {0}
  KeptOn totals (m ∷ ms) =
      Promised m m.source
      × granted (host_said m.number) (AddFromC M.seconds m.moved totals M.faces 0 m.added) (Unit {0})
      × KeptOn (totals_after m totals) ms

-- the totals at the period's end
unfoldable pub last_totals : List ℕ → List Made → List ℕ
last_totals totals [] = totals
last_totals totals (m ∷ ms) = last_totals (totals_after m totals) ms

-- what the accepted steps moved outward over face f
unfoldable pub moved_out : List Made → ℕ → ℕ
moved_out [] f = 0
moved_out (m ∷ ms) f = granted (host_said m.number) (forward (get_or m.moved f (pos 0))) 0 + moved_out ms f

-- over each rim face what moved outward there, and nothing elsewhere; all together the out-mass of the accepted steps
pub record PeriodTotals (M : Mesh) (calls : List Made) (totals : List ℕ) : Type 0 where
  pub rim_entry : (f : ℕ) → f < M.faces → at_rim M f ≡ true → get_or totals f 0 ≡ moved_out calls f
  pub interior_entry : (f : ℕ) → f < M.faces → at_rim M f ≡ false → get_or totals f 0 ≡ 0
  pub all_out : (field : List ℕ) → sum M.faces (λ f. cond (at_rim M f) (get_or totals f 0) 0) ≡ total_out (came_to M) field calls

-- of every list of steps, from totals that are all 0
abbrev pub OverAPeriod : Type 0
OverAPeriod = (M : Mesh) (totals : List ℕ) (calls : List Made) → ((f : ℕ) → f < M.faces → get_or totals f 0 ≡ 0) → KeptOn M totals calls
    → PeriodTotals M calls (last_totals totals calls)
