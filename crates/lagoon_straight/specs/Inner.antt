-- What the inner functions come to. Nothing here is promised to a caller.
use Rattle.std.specs.Prelude.{ℕ, ◌≡◌, Bool, List, length}
use Rattle.model.specs.Mesh.{Mesh, run_cells}
use Rattle.model.specs.Causes.{fine, Call, input_of, verdict, bytes_long}
use Rattle.record_layouts.specs.Layouts.{field_kind, field_length}
use Rattle.record_layouts.specs.declared.Width.{Width}
use Rattle.record_reading.specs.Reading.{masses_in, field_read}
use Rattle.taking.specs.Taking.{step_in, step_record_found}
use Rattle.lagoon_straight.specs.Straight.{Put}

module _ (w : Width) (M : Mesh) where
  -- a step on tables
  pub record StepHolds (masses : List ℕ) (k : Call) (room : ℕ) : Type 0 where
    pub step_holds : verdict M masses k ≡ fine
    pub room_holds : bytes_long (field_length (field_kind w) M.cells) room ≡ fine

  abbrev pub StepPut : List ℕ → Call → List ℕ → Bool → List ℕ → Type 0
  StepPut masses k bytes = Put (StepHolds masses k (length bytes)) w (input_of M masses k) bytes

  -- and from the field record on, on a mesh that has been read
  module _ (field step : List ℕ) where
    pub record MeshHolds (room : ℕ) : Type 0 where
      pub field-read : field_read w M.cells field run_cells ≡ fine
      pub step-read : step_record_found w M step ≡ fine
      pub values_hold : StepHolds (masses_in field M.cells) (step_in M step) room

    abbrev pub MeshPut : List ℕ → Bool → List ℕ → Type 0
    MeshPut bytes = Put (MeshHolds (length bytes)) w (input_of M (masses_in field M.cells) (step_in M step)) bytes
