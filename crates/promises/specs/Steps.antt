-- Document 01, "A list of steps": step calls as they were made, on tables and on records, from Rattle and from C, and demand 3 about every list of
-- them; with document 02's S-6, of steps with releases, its S-8, of plain steps, its S-10, of records of both widths, and its S-11, of claims.
use Rattle.std.specs.Prelude.{ℕ, ◌/◌, ◌%◌, ◌≡◌, cond, List, eqb, ℤ, take, Result}
use Rattle.model.specs.Mesh.{Mesh}
use Rattle.model.specs.Causes.{Outcome, accepted, refused, Verdict, fine, ◌and_then◌, Call, input_of, mesh_verdict, field_verdict, water_of}
use Rattle.model.specs.Calls.{Bounded, Left, crossing_of, lent_masses, EachStep, ListClaim}
use Rattle.transport.specs.Promise.{scheme_of, step_said, left_by, StepPromise}
use Rattle.transport.specs.declared.Way.{Way}
use Rattle.judging.specs.Promise.{JudgePromise}
use Rattle.transport.specs.Made.{Made}
use Rattle.record_layouts.specs.Layouts.{field_kind, field_length}
use Rattle.record_layouts.specs.declared.Width.{Width}
use Rattle.record_reading.specs.Reading.{masses_in, fluxes_in, outsides_in, releases_in}
use Rattle.model.specs.declared.Printed.{Printed}
use Rattle.model.specs.StepTaken.{taken_said}
use Rattle.taking.specs.Taking.{StepTaking}
use Rattle.lagoon.specs.Host.{HostPromise}
use Rattle.host_answer.specs.Number.{cause_step}
use Rattle.host_answer.specs.Found.{filled}
use Rattle.host_answer.specs.Steps.{crossed, StepFromC, JudgeFromC}
use Rattle.host_record_promises.specs.Plain.{PlainPromise}
use Rattle.host_record_promises.specs.Judge.{JudgedFromC}
use Rattle.promises.specs.Held.{HoldsMesh, HoldsField}
use Rattle.model.specs.declared.Refusal.{Refusal}

-- THE CALLS, as they were made: what was lent besides mesh and field, of any values and of any length; what was answered; and what then stood
-- in the tables that the call writes. Of `step`, by its way, and of `judge` that is `Made`; a claim is lent as moved, and of its call only the
-- next masses are written.

-- `take_step`, the step of a run: the width that it was told, what stood in the table of masses past the field, the step record, the answer,
-- and the masses afterwards.
pub record RunMade : Type 0 where
  pub width : Width
  pub past : List ℕ
  pub step : List ℕ
  pub answer : Result Printed Refusal
  pub masses : List ℕ

-- `lagoon_step`, the host's call, and `lagoon_plain_step`: the width of the records, the three records and the bytes lent for the next field
-- record; the number, and those bytes afterwards. Widths may differ from call to call of one list.
pub record HostMade : Type 0 where
  pub width : Width
  pub mesh : List ℕ
  pub field : List ℕ
  pub step : List ℕ
  pub room : List ℕ
  pub number : ℕ
  pub bytes : List ℕ

-- `lagoon_judge`: the same with the claim, and the entries lent for what is found, before and after.
pub record ClaimMade : Type 0 where
  pub host : HostMade
  pub claim : List ℤ
  pub found : List ℕ
  pub found_after : List ℕ

-- `lagoon_table_step`, `lagoon_table_plain_step` and `lagoon_table_judge`: as `Made`, but that they answer a number and have entries lent for
-- what is found.
pub record TableMade : Type 0 where
  pub past : List ℕ
  pub tables : Call
  pub found : List ℕ
  pub number : ℕ
  pub next : List ℕ
  pub moved : List ℤ
  pub work : List ℕ
  pub found_after : List ℕ

pub data StepCall : Type 0 where
  by_step : Way → Made → StepCall
  by_judge : Made → StepCall
  by_take_step : RunMade → StepCall
  by_host : HostMade → StepCall
  by_host_plain : HostMade → StepCall
  by_host_judge : ClaimMade → StepCall
  by_table_step : Way → TableMade → StepCall
  by_table_judge : TableMade → StepCall

-- WHAT A CALL CAME TO, by its answer: a refusal, or the field that it left with what came in, went out and was released.
abbrev pub run_left : Outcome Printed → List ℕ → Outcome Left
run_left (accepted p) masses = accepted (record { field = masses; crossing = record { entered = p.entered; gone = p.gone; released = p.released } })
run_left (refused i j) masses = refused i j

-- the number of a call from C, taken apart
abbrev pub host_said : ℕ → Verdict
host_said number = cond (eqb number 0) fine (refused (number / cause_step) (number % cause_step))

module _ (M : Mesh) where
  -- the fluxes, outside values and releases that a step record holds, and those of a call
  abbrev pub water_in : List ℕ → Call
  water_in step = water_of (fluxes_in step M.faces) (outsides_in step M.faces M.seconds) (releases_in step M.cells M.faces M.seconds)

  abbrev pub water_by : StepCall → Call
  water_by (by_step way m) = m.tables
  water_by (by_judge m) = m.tables
  water_by (by_take_step m) = water_in m.step
  water_by (by_host m) = water_in m.step
  water_by (by_host_plain m) = water_in m.step
  water_by (by_host_judge m) = water_in m.host.step
  water_by (by_table_step way m) = m.tables
  water_by (by_table_judge m) = m.tables

  abbrev pub next_record : HostMade → List ℕ
  next_record m = take (field_length (field_kind m.width) M.cells) m.bytes

  -- A call from C need not be asked for in-mass and out-mass, and on records `lagoon_step` and `lagoon_plain_step` tell none: they are those of the
  -- water in the step record or in the tables. What is told is owed below.
  abbrev pub host_left : HostMade → List ℕ → Outcome Left
  host_left m field =
      host_said m.number and_then accepted (record { field = masses_in (next_record m) M.cells; crossing = crossing_of M field (water_in m.step) })

  abbrev pub table_left : TableMade → List ℕ → Outcome Left
  table_left m field =
      host_said m.number and_then accepted (record { field = m.next; crossing = crossing_of M (lent_masses M m.past field) m.tables })

  abbrev pub came_to : StepCall → List ℕ → Outcome Left
  came_to (by_step way m) field = left_by (step_said m.answer) m.next
  came_to (by_judge m) field = left_by (step_said m.answer) m.next
  came_to (by_take_step m) field = run_left (taken_said m.answer) m.masses
  came_to (by_host m) field = host_left m field
  came_to (by_host_plain m) field = host_left m field
  came_to (by_host_judge m) field = host_left m.host field
  came_to (by_table_step way m) field = table_left m field
  came_to (by_table_judge m) field = table_left m field

  -- The call was lent the mesh and, as masses, the field, and kept its contract. Of a host's call the records hold them, whichever bytes they are.
  abbrev pub Brought : HostMade → List ℕ → Type 0
  Brought m field = HoldsMesh m.width M m.mesh × HoldsField m.width M field m.field

  abbrev pub StepContract : StepCall → List ℕ → Type 0
  StepContract (by_step way m) field =
      StepPromise (scheme_of way) M (lent_masses M m.past field) m.tables m.answer m.next m.moved m.work
  StepContract (by_judge m) field = JudgePromise M (lent_masses M m.past field) m.tables m.answer m.next
  StepContract (by_take_step m) field = StepTaking m.width M (lent_masses M m.past field) m.step m.answer m.masses
  StepContract (by_host m) field = Brought m field × HostPromise m.mesh m.field m.step m.room m.number m.bytes
  StepContract (by_host_plain m) field = Brought m field × PlainPromise m.mesh m.field m.step m.room m.number m.bytes
  StepContract (by_host_judge m) field = Brought m.host field
      × JudgedFromC m.host.mesh m.host.field m.host.step m.claim m.host.room m.found m.host.number m.host.bytes m.found_after
  StepContract (by_table_step way m) field =
      StepFromC (scheme_of way) M (lent_masses M m.past field) m.tables m.found m.number m.next m.moved m.work m.found_after
  StepContract (by_table_judge m) field = JudgeFromC M (lent_masses M m.past field) m.tables m.found m.number m.next m.found_after

  -- The calls ran one after another, each on the field as the last left it.
  abbrev pub StepsMade : List ℕ → List StepCall → Type 0
  StepsMade = EachStep came_to StepContract

  -- WHAT IS OWED of an accepted call: the bounds; of a call on records that the next field record holds the field; and of one that is lent entries
  -- for what is found, that the crossing which the budget counts stands there, as much of it as there is room for.
  abbrev pub NextHeld : HostMade → Left → Type 0
  NextHeld m l = HoldsField m.width M l.field (next_record m)

  abbrev pub Told : (found found_after : List ℕ) → Left → Type 0
  Told found found_after l = found_after ≡ filled (crossed l.crossing) found

  abbrev pub Given : StepCall → Left → Type 0
  Given (by_step way m) l = Unit {0}
  Given (by_judge m) l = Unit {0}
  Given (by_take_step m) l = Unit {0}
  Given (by_host m) l = NextHeld m l
  Given (by_host_plain m) l = NextHeld m l
  Given (by_host_judge m) l = NextHeld m.host l × Told m.found m.found_after l
  Given (by_table_step way m) l = Told m.found m.found_after l
  Given (by_table_judge m) l = Told m.found m.found_after l

  -- And of a refused one: what it was lent to write is as it was.
  abbrev pub Unwritten : StepCall → List ℕ → Type 0
  Unwritten (by_step way m) field = (m.next ≡ m.tables.nexts) × (m.moved ≡ m.tables.moveds) × (m.work ≡ m.tables.work)
  Unwritten (by_judge m) field = m.next ≡ m.tables.nexts
  Unwritten (by_take_step m) field = m.masses ≡ lent_masses M m.past field
  Unwritten (by_host m) field = m.bytes ≡ m.room
  Unwritten (by_host_plain m) field = m.bytes ≡ m.room
  Unwritten (by_host_judge m) field = (m.host.bytes ≡ m.host.room) × (m.found_after ≡ m.found)
  Unwritten (by_table_step way m) field =
      (m.next ≡ m.tables.nexts) × (m.moved ≡ m.tables.moveds) × (m.work ≡ m.tables.work) × (m.found_after ≡ m.found)
  Unwritten (by_table_judge m) field = (m.next ≡ m.tables.nexts) × (m.found_after ≡ m.found)

  abbrev pub StepOwed : StepCall → List ℕ → Outcome Left → Type 0
  StepOwed call field (accepted l) = Bounded (input_of M field (water_by call)) l.field × Given call l
  StepOwed call field (refused i j) = Unwritten call field

-- DEMAND 3: from any accepted mesh and first field, after any list of step calls, whichever of them were refused.
abbrev pub Demand3 : Type 0
Demand3 = (M : Mesh) → mesh_verdict M ≡ fine → (field : List ℕ) → field_verdict M field ≡ fine → (calls : List StepCall) → StepsMade M field calls
    → ListClaim M (came_to M) (StepOwed M) field calls
