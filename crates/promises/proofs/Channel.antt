-- The channel session as a list of calls that were made: its first step on tables, its second on records; and a third through still water, on
-- wide records, since widths may differ from call to call.
use Prim.Native.Nat.{ℕ}
use mathlib.Core.Path.{◌≡◌, refl, sym, subst}
use mathlib.Core.List.{List, [], ◌∷◌}
use lib.IntN.{pos, negsuc}
use lib.ListN.{take, replicate}
use Rattle.lists.specs.Table.{table, over}
use Rattle.model.specs.Mesh.{ceiling, old_ceiling}
use Rattle.model.specs.Step.{next, moved}
use Rattle.model.specs.Causes.{◌and_then◌, fine, Call, mesh_verdict, field_verdict, mesh_values, call_of}
use Rattle.model.specs.Calls.{lent_masses, crossing_of, corrected, after_all, total_in}
use Rattle.model.proofs.Figures.{channel}
use Rattle.model.proofs.Unfolded.{the_step}
use Rattle.record_bits.specs.Field.{bit_at, bits_at}
use Rattle.record_bits.specs.Layout.{spelled, bits_of, width_of, bytes_for, octet, packed, rows}
use Rattle.record_sections.specs.Sections.{those, row, fields_of, record_of}
use Rattle.record_layouts.specs.Layouts.{value_bits, mass_bits, release_bits, mesh_record, field_record, mesh_length, field_length, step_length}
use Rattle.record_heads.specs.Heads.{width_in, mesh_head_verdict, field_head_verdict, step_head_verdict}
use Rattle.record_layouts.specs.declared.Width.TheVariants.{Narrow, Wide}
use Rattle.record_zeros.specs.Zeros.{zero_bit_good, minus_zero}
use Rattle.record_reading.specs.Reading.{mesh_in, volumes_in, firsts_in, seconds_in, shares_in, reaches_in, masses_in, fluxes_in, outsides_in, releases_in, mesh_bit_good, step_bit_good, mesh_body_verdict, field_body_verdict, step_body_verdict, field_read}
use Rattle.taking_mesh.specs.MeshTaking.{mesh_record_found, mesh_judged}
use Rattle.taking.specs.Taking.{field_judged, blank, step_record_found, step_judged}
use Rattle.lagoon.specs.Host.{host_input, host_verdict, host_bytes, HostPromise}
use Rattle.transport.specs.Promise.{StepPromise}
use Rattle.transport.specs.declared.Way.TheVariants.{Corrected}
use Rattle.transport.specs.Made.{Made}
use Rattle.promises.specs.Steps.{HostMade, StepCall, by_step, by_host, water_in, came_to, StepContract, StepsMade}
use Rattle.promises.proofs.Held.{mesh-holds, field-holds}
use Rattle.std.specs.Prelude.{Ok}

-- the definitions that the figures compute
figures : Unit {0}
unfolding the_step bit_at bits_at spelled bits_of width_of bytes_for octet packed rows those row fields_of record_of value_bits mass_bits release_bits mesh_record
    field_record mesh_length field_length step_length volumes_in firsts_in seconds_in shares_in reaches_in masses_in fluxes_in outsides_in releases_in zero_bit_good
    minus_zero mesh_bit_good step_bit_good mesh_head_verdict field_head_verdict step_head_verdict mesh_body_verdict field_body_verdict step_body_verdict field_read
    step_record_found mesh_record_found mesh_judged field_judged step_judged blank
figures = tt

-- the fields of the session
abbrev before : List ℕ
before = 100000 ∷ 0 ∷ 0 ∷ []

abbrev between : List ℕ
between = 100099 ∷ 49901 ∷ 0 ∷ []

abbrev after : List ℕ
after = 100099 ∷ 81188 ∷ 18713 ∷ []

-- one step on tables with two entries more in the masses, one from its record with a byte more for the next field
abbrev water : Call
water = call_of (negsuc 49 ∷ pos 50 ∷ pos 50 ∷ pos 50 ∷ []) (1000 ∷ 0 ∷ 0 ∷ 0 ∷ []) (7 ∷ 7 ∷ 7 ∷ []) (pos 0 ∷ pos 0 ∷ pos 0 ∷ pos 0 ∷ []) (replicate 16 7)
    (0 ∷ 0 ∷ 0 ∷ [])

abbrev first : Made
first = record {
  past = 7 ∷ 7 ∷ [];
  tables = water;
  answer = Ok (record { entered = 50000; gone = 0; released = 0 });
  next = between;
  moved = negsuc 49999 ∷ pos 49901 ∷ pos 0 ∷ pos 0 ∷ [];
  work = replicate 16 0;
}

abbrev step : List ℕ
step = 0x30 ∷ 0x02 ∷ 0x00 ∷ 0x00 ∷ 0x81 ∷ 0x90 ∷ 0x0c ∷ 0x80 ∷ 0x64 ∷ 0x03 ∷ 0x20 ∷ 0x03 ∷ 0xe8 ∷ 0x00 ∷ 0x00 ∷ 0x00 ∷ []

abbrev room : List ℕ
room = replicate 15 7

abbrev second : HostMade
second = record {
  width = Narrow;
  mesh = mesh_record 1 channel;
  field = field_record 2 3 between;
  step = step;
  room = room;
  number = 0;
  bytes =
      over (field_record 2 3 after) room;
}

-- four faces of kind 7 with U 0, and the two outside values
abbrev still : List ℕ
still = 0x70 ∷ 0x02 ∷ replicate 16 0x00

abbrev wide_room : List ℕ
wide_room = replicate 18 7

abbrev third : HostMade
third = record {
  width = Wide;
  mesh = mesh_record 5 channel;
  field = field_record 6 3 after;
  step = still;
  room = wide_room;
  number = 0;
  bytes =
      over (field_record 6 3 after) wide_room;
}

abbrev calls : List StepCall
calls = by_step Corrected first ∷ by_host second ∷ by_host third ∷ []

-- they keep their contracts: the call on tables,
first_kept : StepPromise corrected channel (lent_masses channel (7 ∷ 7 ∷ []) before) water first.answer between first.moved first.work
unfolding figures
first_kept = record { answer = refl; next_masses = refl; moved_masses = refl; work_after = refl }

-- and the call on records: what it finds, the next field and its bytes, each computed once
found : host_verdict (mesh_record 1 channel) (field_record 2 3 between) step 15 ≡ fine
unfolding figures host_verdict
found = refl

cells_are : (mesh_in (mesh_record 1 channel)).cells ≡ 3
unfolding figures
cells_are = refl

width_is : width_in (mesh_record 1 channel) ≡ Narrow
unfolding figures
width_is = refl

next-are : table (mesh_in (mesh_record 1 channel)).cells (next (host_input (mesh_record 1 channel) (field_record 2 3 between) step)) ≡ after
unfolding figures
next-are = refl

bytes-are : over (field_record 2 3 after) room ≡ host_bytes (mesh_record 1 channel) (field_record 2 3 between) step room
unfolding host_bytes
bytes-are = rw (found, width_is, next-are, cells_are)

second_kept : HostPromise (mesh_record 1 channel) (field_record 2 3 between) step room 0 (over (field_record 2 3 after) room)
second_kept = record { number = rw found; next_field = bytes-are }

-- the third likewise
wide-found : host_verdict (mesh_record 5 channel) (field_record 6 3 after) still 18 ≡ fine
unfolding figures host_verdict
wide-found = refl

wide-cells : (mesh_in (mesh_record 5 channel)).cells ≡ 3
unfolding figures
wide-cells = refl

wide-width : width_in (mesh_record 5 channel) ≡ Wide
unfolding figures
wide-width = refl

wide-next : table (mesh_in (mesh_record 5 channel)).cells (next (host_input (mesh_record 5 channel) (field_record 6 3 after) still)) ≡ after
unfolding figures
wide-next = refl

wide-bytes : over (field_record 6 3 after) wide_room ≡ host_bytes (mesh_record 5 channel) (field_record 6 3 after) still wide_room
unfolding host_bytes
wide-bytes = rw (wide-found, wide-width, wide-next, wide-cells)

third-kept : HostPromise (mesh_record 5 channel) (field_record 6 3 after) still wide_room 0 (over (field_record 6 3 after) wide_room)
third-kept = record { number = rw wide-found; next_field = wide-bytes }

mesh_fine : mesh_verdict channel ≡ fine
unfolding figures
mesh_fine = refl

large-fine : mesh_values ceiling channel ≡ fine
unfolding figures
large-fine = refl

values_fine : mesh_values old_ceiling channel ≡ fine
unfolding figures
values_fine = refl

between-fine : field_verdict channel between ≡ fine
unfolding figures
between-fine = refl

after-fine : field_verdict channel after ≡ fine
unfolding figures
after-fine = refl

-- what the next field records hold
read_back : masses_in (take (field_length 2 3) (over (field_record 2 3 after) room)) 3 ≡ after
unfolding figures
read_back = refl

wide_back : masses_in (take (field_length 6 3) (over (field_record 6 3 after) wide_room)) 3 ≡ after
unfolding figures
wide_back = refl

third-made : StepContract channel (by_host third) after
third-made = ((mesh-holds Wide channel mesh_fine large-fine, field-holds Wide channel mesh_fine large-fine after after-fine), third-kept)

pub made : StepsMade channel before calls
unfolding ◌and_then◌
made = (
  first_kept,
  (
    ((mesh-holds Narrow channel mesh_fine values_fine, field-holds Narrow channel mesh_fine values_fine between between-fine), second_kept),
    (subst (λ (field : List ℕ). StepContract channel (by_host third) field) (sym read_back) third-made, tt),
  ),
)

-- the field that they leave, and what came in

entered : (crossing_of channel between (water_in channel step)).entered ≡ 50000
unfolding figures
entered = refl

none-entered : (crossing_of channel after (water_in channel still)).entered ≡ 0
unfolding figures
none-entered = refl

pub session : after_all (came_to channel) before calls ≡ after
unfolding after_all ◌and_then◌
session = rw wide_back

pub session-in : total_in (came_to channel) before calls ≡ 100000
unfolding total_in ◌and_then◌
session-in = rw (read_back, entered, none-entered)
