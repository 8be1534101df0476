-- Document 02, S-6, beside document 01: the host's call on a step record of kind 3, and in S-10 of kind 7, which hold no releases, is document 01's.
use Rattle.std.specs.Prelude.{ℕ, ◌≡◌, List, length}
use Rattle.lists.specs.Table.{table, over}
use Rattle.model.specs.Step.{next}
use Rattle.model.specs.Causes.{Verdict, ◌and_then◌, granted, bytes_long}
use Rattle.record_layouts.specs.Layouts.{field_kind, water_kind, field_record, field_length}
use Rattle.record_heads.specs.Heads.{kind_in, width_in}
use Rattle.record_layouts.specs.declared.Width.{Width}
use Rattle.record_reading.specs.Reading.{mesh_in, masses_in}
use Rattle.taking.specs.KindThree.{step01, judged01}
use Rattle.host_answer.specs.Number.{number_of}
use Rattle.host_tested.specs.Tested.{field_tested}
use Rattle.lagoon.specs.Host.{HostPromise}

module _ (mesh field step : List ℕ) where
  -- what document 01 has the call find, and the bytes that it leaves
  abbrev pub host_verdict01 : ℕ → Verdict
  host_verdict01 room = field_tested mesh field
      and_then judged01 (width_in mesh) (mesh_in mesh) (masses_in field (mesh_in mesh).cells) step
      and_then bytes_long (field_length (field_kind (width_in mesh)) (mesh_in mesh).cells) room

  abbrev pub next_record01 : List ℕ
  next_record01 = field_record (field_kind (width_in mesh)) (mesh_in mesh).cells
      (table (mesh_in mesh).cells (next (step01 (mesh_in mesh) (masses_in field (mesh_in mesh).cells) step)))

  abbrev pub host_bytes01 : List ℕ → List ℕ
  host_bytes01 bytes = granted (host_verdict01 (length bytes)) (over next_record01 bytes) bytes

abbrev pub HostAsBefore : Type 0
HostAsBefore = (w : Width) (mesh field step bytes : List ℕ) → kind_in step ≡ water_kind w → (r : ℕ) (bytes' : List ℕ) → HostPromise mesh field step bytes r bytes'
    → (r ≡ number_of (host_verdict01 mesh field step (length bytes))) × (bytes' ≡ host_bytes01 mesh field step bytes)
