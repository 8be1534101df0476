-- A step on records: past the causes of mesh and field it is the taking of the step that finds and steps.
use Prim.Native.Nat.{ℕ, ◌^◌, ◌<◌}
use mathlib.Core.Path.{◌≡◌, sym, ap, ◌∙◌}
use mathlib.Core.List.{List, [], ◌∷◌}
use lib.ListN.{take}
use Rattle.model.specs.Mesh.{Mesh}
use Rattle.model.specs.Meshes.{parted}
use Rattle.model.specs.Causes.{accepted, Verdict, fine, ◌and_then◌}
use Rattle.model.specs.Answers.{number, told}
use Rattle.model.specs.declared.Refusal.{Refusal}
use Rattle.model.proofs.Verdicts.{past, out, refused-of, accepted-of}
use Rattle.record_reading.specs.Reading.{mesh_in}
use Rattle.model.specs.declared.Printed.{Printed}
use Rattle.model.specs.StepTaken.{taken_said}
use Rattle.taking.specs.Taking.{step_in, printed_of, StepTaking}
use Rattle.host_answer.specs.Number.{number_of}
use Rattle.host_answer.specs.Found.{filled, Answered}
use Rattle.host_answer.proofs.Answers.{answered-found}
use Rattle.host_answer.proofs.Small.{small-and, small-giving, small-number}
use Rattle.host_tested.specs.Tested.{field_tested, field_in, step_tested}
use Rattle.host_taking.specs.Taken.{RecordsTaking}
use Rattle.host_taking.specs.declared.FieldCounts.{FieldCounts}
use Rattle.host_taking.proofs.Held.{tested-fine as taken_fine, counted_by, all-as}
use Rattle.host_tested.proofs.Small.{field-tested-small, step-judged-small}
use Rattle.host_record_promises.specs.Crossing.{step_found, crossed_in}
use Rattle.std.specs.Prelude.{Result, Ok, Err}

module _ (mesh field step : List ℕ) where
  pub step-untaken : (r : Refusal) → field_tested mesh field ≡ told r → taken_said (Err r) ≡ step_found mesh field step
  step-untaken r e = sym (out _ (out _ e))

  pub step-made : {a : Result FieldCounts Refusal} {left : Mesh} {masses : List ℕ} (t : RecordsTaking mesh field a left masses) {n : FieldCounts} (d : a ≡ Ok n)
      {r : Result Printed Refusal} {masses' : List ℕ} → StepTaking n.width (parted (counted_by n left)) (take n.cells masses) step r masses'
      → taken_said r ≡ step_found mesh field step
  step-made t d {r = r} {masses' = masses'} u =
      let x = all-as mesh field t d (λ w M ms. StepTaking w M ms step r masses') u in
      x.answer ∙ sym (ap (λ (v : Verdict). v and_then accepted (printed_of (mesh_in mesh) (field_in mesh field) (step_in (mesh_in mesh) step)))
      (past _ (taken_fine mesh field t.answer d)))

  pub found-fits : number_of (step_found mesh field step) < 2 ^ 64
  found-fits = small-number _ (small-giving _ (small-and (field-tested-small mesh field) (step-judged-small mesh step (field_in mesh field))))

  module _ {a : Result Printed Refusal} (q : taken_said a ≡ step_found mesh field step) where
    pub tested-refused : {r : Refusal} → a ≡ Err r → step_tested mesh field step ≡ told r
    tested-refused {r = r} d = refused-of (step_tested mesh field step) _ (number r.cause) r.place (sym (ap taken_said d) ∙ q)

    pub tested-fine : {p : Printed} → a ≡ Ok p → step_tested mesh field step ≡ fine
    tested-fine {p = p} d = (accepted-of (step_tested mesh field step) _ p (sym (ap taken_said d) ∙ q)).0

    -- what crosses the rim is found in the paper's order
    pub crossing-found : {p : Printed} → a ≡ Ok p → (found : List ℕ) {found' : List ℕ}
        → found' ≡ filled (p.entered ∷ p.gone ∷ p.released ∷ []) found → Answered crossed_in (step_found mesh field step) found 0 found'
    crossing-found d found e = answered-found crossed_in found (sym q ∙ ap taken_said d) e
