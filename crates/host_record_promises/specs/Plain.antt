-- Document 02, S-8, for a host in C: the plain step on a mesh, a field and a step record. Records, causes and room are those of the step on records.
use Rattle.std.specs.Prelude.{ℕ, ◌≡◌, List, ℤ, length, Result}
use Rattle.model.specs.Mesh.{Mesh}
use Rattle.model.specs.Causes.{verdict}
use Rattle.model.specs.Calls.{plain}
use Rattle.record_heads.specs.Heads.{width_in}
use Rattle.record_layouts.specs.declared.Width.{Width}
use Rattle.record_reading.specs.Reading.{mesh_in}
use Rattle.taking.specs.Taking.{own_tables, step_in, step_judged}
use Rattle.host_answer.specs.Number.{number_of}
use Rattle.host_tested.specs.Tested.{field_in, step_tested}
use Rattle.host_record_promises.specs.Next.{with_room, record_over, next_by, StepWritten}
use Rattle.model.specs.declared.Refusal.{Refusal}
use Rattle.transport.specs.declared.Crossed.{Crossed}

-- on tables, on a mesh and a field that have been read, and on records
abbrev pub PlainIn : Width → Mesh → List ℕ → List ℤ → List ℕ → List ℕ → List ℕ → (Result Crossed Refusal) → List ℕ → Type 0
PlainIn w M masses fluxes outsides releases =
    StepWritten plain M masses (own_tables fluxes outsides releases) (verdict M masses (own_tables fluxes outsides releases)) w

abbrev pub PlainOn : Width → Mesh → List ℕ → List ℕ → List ℕ → (Result Crossed Refusal) → List ℕ → Type 0
PlainOn w M masses step = StepWritten plain M masses (step_in M step) (step_judged w M masses step) w

module _ (mesh field step : List ℕ) where
  abbrev pub PlainTaking : List ℕ → (Result Crossed Refusal) → List ℕ → Type 0
  PlainTaking = StepWritten plain (mesh_in mesh) (field_in mesh field) (step_in (mesh_in mesh) step) (step_tested mesh field step) (width_in mesh)

  -- The promise: the number, and the bytes afterwards.
  pub record PlainPromise (bytes : List ℕ) (r : ℕ) (bytes' : List ℕ) : Type 0 where
    pub number : r ≡ number_of (with_room (step_tested mesh field step) (width_in mesh) (mesh_in mesh).cells (length bytes))
    pub next_field : bytes' ≡ record_over (step_tested mesh field step) (width_in mesh) (mesh_in mesh).cells
        (next_by plain (mesh_in mesh) (field_in mesh field) (step_in (mesh_in mesh) step)) bytes
