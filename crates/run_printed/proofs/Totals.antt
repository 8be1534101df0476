-- The totals on the lines of a run close: each step's budget, by the contract of the call that took it.
use Prim.Native.Nat.{ℕ, ◌+◌}
use mathlib.Core.Path.{◌≡◌, refl, sym, ◌∙◌}
use mathlib.Core.List.{List, [], ◌∷◌}
use native.Mathlib.Omega.{arith}
use Rattle.lists.specs.Table.{table, over}
use Rattle.lists.proofs.Sums.{sum-cong}
use Rattle.lists.proofs.Tables.{get_or-table, get_d_over}
use Rattle.model.specs.Mesh.{Mesh, total, run_cells}
use Rattle.model.specs.Step.{StepInput, next, in_mass, out_mass, released_mass, moved}
use Rattle.model.specs.Causes.{Outcome, accepted, refused, fine, input_of, cells_only}
use Rattle.model.specs.Calls.{mass_in}
use Rattle.model.proofs.Verdicts.{accepted-of, refused-of}
use Rattle.model.proofs.Accepted.{ready}
use Rattle.model.proofs.Next.{amounts-budget, moved_keeps}
use Rattle.model.proofs.Lists.{raised-total}
use Rattle.record_layouts.specs.declared.Width.{Width}
use Rattle.record_reading.specs.Reading.{masses_in}
use Rattle.model.specs.declared.Printed.{Printed}
use Rattle.model.specs.StepTaken.{taken_said}
use Rattle.taking.specs.Taking.{step_in, printed_of, step_judged, StepTaking}
use Rattle.taking.proofs.StepLaws.{step-says}
use Rattle.run_printed.specs.Program.{StepsPrint, no_byte, step_ends, step_goes_on, FieldPrints, field_refused, field_accepted, mesh_refused, mesh_accepted}
use Rattle.run_printed.specs.Totals.{answers_of, Close, FieldCloses, TotalsClose}
use Rattle.std.specs.Prelude.{Result}
use Rattle.model.specs.declared.Refusal.{Refusal}

module _ (w : Width) (M : Mesh) (masses masses' bs : List ℕ) (r : Result Printed Refusal) (t : StepTaking w M masses bs r masses') where
  abbrev S : StepInput
  S = input_of M masses (step_in M bs)

  -- a step that is accepted: its budget, and the total of the masses that it leaves
  module _ (ok : step_judged w M masses bs ≡ fine) where
    budget : total M (next S) + out_mass S ≡ total M (mass_in masses) + in_mass S + released_mass M.cells (step_in M bs).releases
    unfolding next
    budget =
        let sound = (ready M masses (step_in M bs) (step-says w M masses bs ok).1).sound in
        omega (arith, amounts-budget S (moved S) (moved_keeps S sound) sound, raised-total M masses (step_in M bs))

    left-total : total M (mass_in masses') ≡ total M (next S)
    unfolding total
    left-total =
        let m : masses' ≡ over (table M.cells (next S)) masses = t.masses-after ∙ rw ok in
        sum-cong M.cells (mass_in masses') (next S) (λ c h. rw m (get_d_over M.cells (next S) masses 0 c h))

  one-closes : (o : Outcome Printed) → taken_said r ≡ o → (os : List (Outcome Printed)) → Close (total M (mass_in masses')) os
      → Close (total M (mass_in masses)) (o ∷ os)
  one-closes (accepted p) e os rest =
      let a = accepted-of (step_judged w M masses bs) (printed_of M masses (step_in M bs)) p (sym e ∙ t.answer) in
      rw a.1 (budget a.0, rw (left-total a.0) at rest)
  one-closes (refused i j) e os rest =
      let v = refused-of (step_judged w M masses bs) (printed_of M masses (step_in M bs)) i j (sym e ∙ t.answer) in
      let m : masses' ≡ masses = t.masses-after ∙ rw v in
      rw m at rest

module _ (w : Width) (M : Mesh) where
  steps-close : {step : ℕ} {masses input out : List ℕ} (p : StepsPrint w M step masses input out) → Close (total M (mass_in masses)) (answers_of p)
  unfolding answers_of
  steps-close (no_byte bs g z b) = tt
  steps-close {masses = masses} (step_ends {masses' = masses'} bs r line g s t h e b) = one-closes w M masses masses' bs r t (taken_said r) refl [] tt
  steps-close {masses = masses} (step_goes_on {masses' = masses'} bs r line g s t h e p) =
      one-closes w M masses masses' bs r t (taken_said r) refl (answers_of p) (steps-close p)

  field-closes : {input out : List ℕ} (p : FieldPrints w M input out) → FieldCloses p
  unfolding total masses_in
  field-closes (field_refused bs masses refusal line g t h) = tt
  field-closes (field_accepted bs masses sum line g t h p) =
      let a = accepted-of _ (total (cells_only M.cells M.volumes) (mass_in (masses_in bs M.cells))) sum t.answer in
      let m : masses ≡ over (masses_in bs M.cells) (table run_cells (λ i. 0)) = t.masses-after ∙ rw a.0 in
      let same : total M (mass_in masses) ≡ sum = sum-cong M.cells (mass_in masses) (mass_in (masses_in bs M.cells))
      (λ c h. rw m (get_d_over M.cells _ (table run_cells (λ i. 0)) 0 c h ∙ sym (get_or-table M.cells _ 0 c h))) ∙ sym a.1 in
      rw same at (steps-close p)

pub totals-close : TotalsClose
totals-close input out (mesh_refused bs left refusal line g t h) = tt
totals-close input out (mesh_accepted bs left counts g t p) = field-closes _ _ p
