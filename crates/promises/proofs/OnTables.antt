-- A call on tables, by whatever scheme it steps, as a call of a list: what it owes by its contract.
use Prim.Native.Nat.{ℕ}
use mathlib.Core.Path.{◌≡◌, refl, sym, ◌∙◌}
use mathlib.Core.List.{List}
use Rattle.model.specs.Mesh.{Mesh}
use Rattle.model.specs.Causes.{Outcome, accepted, refused, fine, Call, input_of, mesh_verdict}
use Rattle.model.specs.Calls.{Bounded, Left, Scheme, judged, lent_masses, next_table, moved_table, work_table, step_on_tables}
use Rattle.model.proofs.Verdicts.{refused-of}
use Rattle.model.proofs.Accepted.{counted, mesh-fit}
use Rattle.model.proofs.Agree.{field-agrees, fair-agree}
use Rattle.model.proofs.Lists.{Fair, Keeping, tables-fair, lent_same}
use Rattle.transport.specs.Promise.{step_said, left_by, StepPromise}
use Rattle.transport.proofs.Promises.{promised-comes}
use Rattle.judging.specs.Promise.{JudgePromise}
use Rattle.transport.specs.Made.{Made}
use Rattle.promises.proofs.Held.{within, passes}

-- what such a call comes to
module _ (s : Scheme) (M : Mesh) (field past : List ℕ) (k : Call) (o : Outcome Left) (comes : step_on_tables s M k (lent_masses M past field) ≡ o) where
  abbrev lent : List ℕ
  lent = lent_masses M past field

  -- accepted: budget, bounds and an accepted field
  pub tables-owe : Keeping s → mesh_verdict M ≡ fine → (l : Left) → o ≡ accepted l → Fair M (Bounded (input_of M field k) l.field) field l
  tables-owe keeping mesh_fine l e = fair-agree M M field lent k k (field-agrees M k field lent (lent_same M past field))
      (counted M (within M mesh_fine)).few_cells (mesh-fit M (passes M mesh_fine)) l (tables-fair s keeping M k lent l (comes ∙ e))

  pub found-refused : (i j : ℕ) → o ≡ refused i j → s.finds M lent k ≡ refused i j
  unfolding step_on_tables
  found-refused i j e = refused-of (s.finds M lent k) _ i j (sym (comes ∙ e))

-- its contract
module _ (s : Scheme) (M : Mesh) (field : List ℕ) (m : Made)
    (p : StepPromise s M (lent_masses M m.past field) m.tables m.answer m.next m.moved m.work) where
  comes : step_on_tables s M m.tables (lent_masses M m.past field) ≡ left_by (step_said m.answer) m.next
  comes = promised-comes s M (lent_masses M m.past field) m.tables m.answer m.next m.moved m.work p

  pub made-fair : Keeping s → mesh_verdict M ≡ fine → (l : Left) → left_by (step_said m.answer) m.next ≡ accepted l
      → Fair M (Bounded (input_of M field m.tables) l.field) field l
  made-fair = tables-owe s M field m.past m.tables (left_by (step_said m.answer) m.next) comes

  -- refused: every table as it was
  pub made-refused : (i j : ℕ) → left_by (step_said m.answer) m.next ≡ refused i j
      → (m.next ≡ m.tables.nexts) × (m.moved ≡ m.tables.moveds) × (m.work ≡ m.tables.work)
  unfolding next_table moved_table work_table
  made-refused i j e =
      let r = found-refused s M field m.past m.tables (left_by (step_said m.answer) m.next) comes i j e in
      (p.next_masses ∙ rw r, p.moved_masses ∙ rw r, p.work_after ∙ rw r)

-- A judging is a step on tables that writes no moved and no work: beside what it leaves, those tables as the scheme has them.
abbrev pub as_step : Mesh → List ℕ → Made → Made
as_step M field m = record {
  past = m.past;
  tables = m.tables;
  answer = m.answer;
  next = m.next;
  moved = moved_table judged M m.tables (lent_masses M m.past field);
  work = work_table judged M m.tables (lent_masses M m.past field);
}

pub as-step : (M : Mesh) (field : List ℕ) (m : Made) → JudgePromise M (lent_masses M m.past field) m.tables m.answer m.next
    → StepPromise judged M (lent_masses M m.past field) m.tables m.answer m.next (as_step M field m).moved (as_step M field m).work
as-step M field m p = record { answer = p.answer; next_masses = p.next_masses; moved_masses = refl; work_after = refl }
