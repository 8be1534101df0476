-- Document 01, "A list of steps", for a host in C on records: `lagoon_step` and `lagoon_plain_step` tell no in-mass, out-mass or released mass.
-- `lagoon_crossing`, lent the same records, tells those that the budget of demand 3 counts, and `lagoon_total` the field's total.
use Rattle.std.specs.Prelude.{ℕ, ◌≡◌, List}
use Rattle.model.specs.Mesh.{Mesh, total}
use Rattle.model.specs.Causes.{accepted, fine, mesh_verdict}
use Rattle.model.specs.Calls.{Left, mass_in}
use Rattle.host_answer.specs.Found.{filled, alone, Answered}
use Rattle.host_record_promises.specs.Crossing.{step_found, crossed_in}
use Rattle.host_record_promises.specs.Cells.{total_found}
use Rattle.promises.specs.Steps.{HostMade, StepCall, by_host, by_host_plain, came_to, StepContract, Told}

module _ (M : Mesh) (field : List ℕ) (m : HostMade) (l : Left) where
  -- what `lagoon_crossing` says of the records of a step: 0, and the crossing that the budget counts of it, as much as there is room for
  abbrev pub CrossingTold : Type 0
  CrossingTold = (found : List ℕ) (r : ℕ) (found' : List ℕ) → Answered crossed_in (step_found m.mesh m.field m.step) found r found'
      → (r ≡ 0) × Told M found found' l

  -- and `lagoon_total`: the total of the field that the step was made on
  abbrev pub TotalTold : Type 0
  TotalTold = (found : List ℕ) (r : ℕ) (found' : List ℕ) → Answered alone (total_found m.mesh m.field) found r found'
      → (r ≡ 0) × (found' ≡ filled (alone (total M (mass_in field))) found)

  -- of a call that was lent the field, kept its contract and was accepted
  abbrev pub FiguresTold : StepCall → Type 0
  FiguresTold call = StepContract M call field → came_to M call field ≡ accepted l → CrossingTold × TotalTold

-- a host that adds up what it is told has demand 3's budget
abbrev pub BudgetTold : Type 0
BudgetTold = (M : Mesh) → mesh_verdict M ≡ fine → (field : List ℕ) (m : HostMade) (l : Left)
    → FiguresTold M field m l (by_host m) × FiguresTold M field m l (by_host_plain m)
