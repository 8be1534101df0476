-- Document 02, S-6 beside document 01: a step whose releases are all 0 is the step of document 01.
use Rattle.std.specs.Prelude.{ℕ, ◌≤◌, ◌<◌, ◌≡◌, List, [], ◌∷◌, length}
use Rattle.lists.specs.Table.{table, over}
use Rattle.model.specs.Mesh.{Mesh, ceiling}
use Rattle.model.specs.Step.{StepInput, rounded_input, next, moved, in_mass, out_mass}
use Rattle.model.specs.Causes.{accepted, Verdict, ◌and_then◌, in_turn, granted, Call, release, work_length, lengths01, counts, mesh_tables, field_table, mesh_values, field_values, step_values}
use Rattle.model.specs.Calls.{corrected, step_answer, next_table, moved_table, work_table}

module _ (M : Mesh) (field : List ℕ) (k : Call) where
  -- what document 01's step works on: the field as it is lent
  abbrev pub unraised : StepInput
  unraised = rounded_input M field k.fluxes k.outsides

  -- and the causes that it has; those of water read fluxes and outside values, and no masses
  abbrev pub verdict01 : Verdict
  verdict01 = in_turn
      (counts M ∷ mesh_tables M ∷ field_table M field ∷ in_turn (lengths01 M.cells M.faces k)
      ∷ mesh_values ceiling M ∷ field_values M field ∷ step_values ceiling M field k ∷ [])

  pub record AsBefore : Type 0 where
    pub same_answer : step_answer corrected M k field ≡ (verdict01
        and_then accepted (record { entered = in_mass unraised; gone = out_mass unraised; released = 0 }))
    pub same_next : next_table corrected M k field ≡ granted verdict01 (over (table M.cells (next unraised)) k.nexts) k.nexts
    pub same_moved : moved_table corrected M k field ≡ granted verdict01 (over (table M.faces (moved unraised)) k.moveds) k.moveds
    pub same_work : work_table corrected M k field ≡ granted verdict01 (over (table (work_length M) (λ i. 0)) k.work) k.work

abbrev pub Unreleased : Type 0
Unreleased = (M : Mesh) (field : List ℕ) (k : Call) → M.cells ≤ length k.releases → ((c : ℕ) → c < M.cells → release k c ≡ 0) → AsBefore M field k
