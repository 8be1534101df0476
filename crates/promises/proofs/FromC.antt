-- A step on tables from C, by whatever scheme, as a call of a list: its number says what was found, and the rest is the step underneath.
use Prim.Native.Nat.{ℕ}
use mathlib.Core.Path.{◌≡◌, sym, ◌∙◌}
use mathlib.Core.List.{List}
use Rattle.model.specs.Mesh.{Mesh}
use Rattle.model.specs.Causes.{accepted, refused, fine, ◌and_then◌, Call, input_of, mesh_verdict}
use Rattle.model.specs.Calls.{Bounded, Left, crossing_of, Scheme, lent_masses, step_answer, next_table, moved_table, work_table, step_on_tables}
use Rattle.model.proofs.Verdicts.{accepted-of}
use Rattle.model.proofs.Lists.{Fair, Keeping}
use Rattle.host_answer.specs.Found.{Answered}
use Rattle.host_answer.proofs.Small.{Small}
use Rattle.host_answer.specs.Steps.{crossed, StepFromC}
use Rattle.promises.specs.Steps.{TableMade, host_said, table_left, Told}
use Rattle.promises.proofs.Numbers.{said-giving}
use Rattle.promises.proofs.OnTables.{tables-owe, found-refused}

module _ (s : Scheme) (M : Mesh) (field : List ℕ) (m : TableMade) (small : Small (s.finds M (lent_masses M m.past field) m.tables)) where
  abbrev lent : List ℕ
  lent = lent_masses M m.past field

  abbrev k : Call
  k = m.tables

  abbrev came : Left
  came = record { field = m.next; crossing = crossing_of M lent k }

  module _ (answer : Answered crossed (step_answer s M k lent) m.found m.number m.found_after) (next_masses : m.next ≡ next_table s M k lent) where
    number-says : host_said m.number ≡ s.finds M lent k
    unfolding step_answer
    number-says = said-giving (s.finds M lent k) (crossing_of M lent k) m.number answer.number small

    pub comes : step_on_tables s M k lent ≡ table_left M m field
    unfolding step_on_tables
    comes = rw (number-says, next_masses)

    told : s.finds M lent k ≡ fine → Told M m.found m.found_after came
    unfolding step_answer ◌and_then◌
    told ok = answer.found-after ∙ rw ok

    pub table-fair : Keeping s → mesh_verdict M ≡ fine → (l : Left) → table_left M m field ≡ accepted l
        → Fair M (Bounded (input_of M field k) l.field × Told M m.found m.found_after l) field l
    table-fair keeping mesh_fine l e =
        let f = tables-owe s M field m.past k (table_left M m field) comes keeping mesh_fine l e in
        let b = accepted-of (host_said m.number) came l (sym e) in
        record { budget = f.budget; holds = (f.holds, rw b.1 (told (sym number-says ∙ b.0))); field_accepted = f.field_accepted }

    pub table-refused : (i j : ℕ) → table_left M m field ≡ refused i j → (m.next ≡ k.nexts) × (m.found_after ≡ m.found)
    unfolding step_answer next_table ◌and_then◌
    table-refused i j e =
        let r = found-refused s M field m.past k (table_left M m field) comes i j e in
        (next_masses ∙ rw r, answer.found-after ∙ rw r)

  -- a step writes moved and work too
  pub step-refused : StepFromC s M lent k m.found m.number m.next m.moved m.work m.found_after → (i j : ℕ) → table_left M m field ≡ refused i j
      → (m.next ≡ k.nexts) × (m.moved ≡ k.moveds) × (m.work ≡ k.work) × (m.found_after ≡ m.found)
  unfolding moved_table work_table
  step-refused p i j e =
      let r = found-refused s M field m.past k (table_left M m field) (comes p.answer p.next_masses) i j e in
      let t = table-refused p.answer p.next_masses i j e in
      (t.0, p.moved_masses ∙ rw r, p.work_after ∙ rw r, t.1)
