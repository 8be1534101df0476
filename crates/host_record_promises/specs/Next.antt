-- Document 01, "Tables lent to a step", of the host's call on records, by whatever scheme it steps: the next masses become a field record of the mesh's
-- width. Too few bytes, cause 2 with place 11, are found after all other causes.
use Rattle.std.specs.Prelude.{ℕ, ◌≡◌, List, length, Result}
use Rattle.lists.specs.Table.{table, over}
use Rattle.model.specs.Mesh.{Mesh, updated}
use Rattle.model.specs.Step.{mass}
use Rattle.model.specs.Causes.{accepted, Verdict, ◌and_then◌, granted, Call, input_of, bytes_long}
use Rattle.model.specs.Calls.{Crossing, Scheme, crossing_of}
use Rattle.transport.specs.Promise.{step_said}
use Rattle.record_layouts.specs.Layouts.{field_kind, field_record, field_length}
use Rattle.record_layouts.specs.declared.Width.{Width}
use Rattle.model.specs.declared.Refusal.{Refusal}
use Rattle.transport.specs.declared.Crossed.{Crossed}

-- what is found, with the room last, and the bytes afterwards
module _ (v : Verdict) (w : Width) (cells : ℕ) where
  abbrev pub with_room : ℕ → Verdict
  with_room room = v and_then bytes_long (field_length (field_kind w) cells) room

  abbrev pub record_over : List ℕ → List ℕ → List ℕ
  record_over next bytes = granted (with_room (length bytes)) (over (field_record (field_kind w) cells next) bytes) bytes

-- a step of which v is found before the room
pub record NextWritten (v : Verdict) (x : Crossing) (w : Width) (cells : ℕ) (next : List ℕ) (bytes : List ℕ) (r : Result Crossed Refusal) (bytes' : List ℕ) : Type 0 where
  pub answer : step_said r ≡ (with_room v w cells (length bytes) and_then accepted x)
  pub bytes_after : bytes' ≡ record_over v w cells next bytes

module _ (s : Scheme) (M : Mesh) (masses : List ℕ) (k : Call) where
  -- the masses that the scheme leaves
  abbrev pub next_by : List ℕ
  next_by = table M.cells (updated M (mass (input_of M masses k)) (s.moves M masses k))

  abbrev pub StepWritten : Verdict → Width → List ℕ → (Result Crossed Refusal) → List ℕ → Type 0
  StepWritten v w = NextWritten v (crossing_of M masses k) w M.cells next_by
