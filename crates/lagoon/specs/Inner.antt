-- What the inner functions of the host's call come to. Nothing here is promised to a caller.
use Rattle.std.specs.Prelude.{ℕ, ◌≡◌, List, length, Result}
use Rattle.lists.specs.Table.{table, over}
use Rattle.model.specs.Mesh.{Mesh, run_cells}
use Rattle.model.specs.Step.{StepInput, next}
use Rattle.model.specs.Causes.{Verdict, ◌and_then◌, granted, input_of, bytes_long}
use Rattle.model.specs.Answers.{said}
use Rattle.record_layouts.specs.Layouts.{field_kind, field_record, field_length}
use Rattle.record_heads.specs.Heads.{width_in}
use Rattle.record_layouts.specs.declared.Width.{Width}
use Rattle.record_reading.specs.Reading.{masses_in}
use Rattle.taking.specs.Taking.{field_judged, step_in, step_judged}
use Rattle.lagoon.specs.Host.{host_input, host_verdict}
use Rattle.model.specs.declared.Refusal.{Refusal}

-- a call of which v is found, with the next field of the step S in a record of this width
pub record Comes (v : Verdict) (w : Width) (S : StepInput) (bytes : List ℕ) (r : Result (Unit {0}) Refusal) (bytes' : List ℕ) : Type 0 where
  pub answer : said r ≡ v
  pub bytes_after : bytes' ≡ granted v (over (field_record (field_kind w) S.mesh.cells (table S.mesh.cells (next S))) bytes) bytes

-- from the field record on, on a mesh that has been read
module _ (M : Mesh) (field step : List ℕ) where
  abbrev pub step_of : StepInput
  step_of = input_of M (masses_in field M.cells) (step_in M step)

module _ (w : Width) (M : Mesh) (field step : List ℕ) where
  abbrev pub judged_from_field : ℕ → Verdict
  judged_from_field room = field_judged w M.cells M.volumes field run_cells and_then step_judged w M (masses_in field M.cells) step
      and_then bytes_long (field_length (field_kind w) M.cells) room

  abbrev pub MeshComes : List ℕ → (Result (Unit {0}) Refusal) → List ℕ → Type 0
  MeshComes bytes = Comes (judged_from_field (length bytes)) w (step_of M field step) bytes

-- all of it
abbrev pub HostComes : List ℕ → List ℕ → List ℕ → List ℕ → (Result (Unit {0}) Refusal) → List ℕ → Type 0
HostComes mesh field step bytes = Comes (host_verdict mesh field step (length bytes)) (width_in mesh) (host_input mesh field step) bytes
