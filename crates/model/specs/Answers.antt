-- Document 01, "What form each place needs", on answers that are enums: the number and the values of each case.
use Rattle.std.specs.Prelude.{ℕ, Result, Ok, Err}
use Rattle.model.specs.Causes.{Outcome, refused, Verdict, fine}
use Rattle.model.specs.declared.Cause.{Cause}
use Rattle.model.specs.declared.Cause.TheVariants.{Limits, Table, Volume, Ends, Spacing, Concentration, Outside, Flux, Balance, Outflow, Length, Bit, Head, Page, Name, Room, Unkept, Release, Coordinate, Ratio, Moved, Bounds, Label, Part, Bands, Period, Mark}
use Rattle.model.specs.declared.Refusal.{Refusal}

-- "Causes", the column of numbers; then those of document 02's requests.
abbrev pub number : Cause → ℕ
number Limits = 1
number Table = 2
number Volume = 3
number Ends = 4
number Spacing = 5
number Concentration = 6
number Outside = 7
number Flux = 8
number Balance = 9
number Outflow = 10
number Length = 11
number Bit = 12
number Head = 13
-- Document 02, S-1
number Page = 14
-- S-4
number Name = 15
number Room = 16
number Unkept = 17
-- S-6
number Release = 18
-- S-7
number Coordinate = 19
number Ratio = 20
-- S-11
number Moved = 21
number Bounds = 22
-- S-12
number Label = 23
number Part = 24
-- S-13
number Bands = 25
number Period = 26
-- S-14
number Mark = 27

-- A refusal, by its number and its place.
abbrev pub told : {A : Type 0} → Refusal → Outcome A
told r = refused (number r.cause) r.place

abbrev pub said : Result (Unit {0}) Refusal → Verdict
said (Ok x) = fine
said (Err r) = told r
