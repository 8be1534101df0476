-- Document 02, S-6, beside document 01: a step record of kind 3, and in S-10 of kind 7, holds no releases, so that what it comes to is document 01's step.
use Rattle.std.specs.Prelude.{◌≡◌, List, ℕ, Result}
use Rattle.lists.specs.Table.{table, over}
use Rattle.model.specs.Mesh.{Mesh, total}
use Rattle.model.specs.Step.{StepInput, next, in_mass, out_mass}
use Rattle.model.specs.Causes.{accepted, Verdict, ◌and_then◌, granted}
use Rattle.model.specs.Unreleased.{unraised, verdict01, AsBefore}
use Rattle.record_layouts.specs.Layouts.{water_kind}
use Rattle.record_heads.specs.Heads.{kind_in}
use Rattle.record_layouts.specs.declared.Width.{Width}
use Rattle.model.specs.declared.Printed.{Printed}
use Rattle.model.specs.StepTaken.{taken_said}
use Rattle.taking.specs.Taking.{step_in, step_record_found, StepTaking}
use Rattle.model.specs.declared.Refusal.{Refusal}

abbrev pub KindThree : Type 0
KindThree = (w : Width) (M : Mesh) (masses bs : List ℕ) → kind_in bs ≡ water_kind w → AsBefore M masses (step_in M bs)

-- The same of a call of `take_step`, whichever width it is told: what document 01 has it print,
module _ (M : Mesh) (masses bs : List ℕ) where
  abbrev pub step01 : StepInput
  step01 = unraised M masses (step_in M bs)

  abbrev pub printed01 : Printed
  printed01 = record { entered = in_mass step01; gone = out_mass step01; total = total M (next step01); released = 0 }

-- find in the record, and leave.
module _ (told : Width) (M : Mesh) (masses bs : List ℕ) where
  abbrev pub judged01 : Verdict
  judged01 = step_record_found told M bs and_then verdict01 M masses (step_in M bs)

  pub record StepTaking01 (r : Result Printed Refusal) (masses' : List ℕ) : Type 0 where
    pub answer : taken_said r ≡ (judged01 and_then accepted (printed01 M masses bs))
    pub masses-after : masses' ≡ granted judged01 (over (table M.cells (next (step01 M masses bs))) masses) masses

abbrev pub TakenAsBefore : Type 0
TakenAsBefore = (w told : Width) (M : Mesh) (masses bs : List ℕ) → kind_in bs ≡ water_kind w → (r : Result Printed Refusal) (masses' : List ℕ)
    → StepTaking told M masses bs r masses' → StepTaking01 told M masses bs r masses'
