-- A step record, read into tables of a call's own that are as long as the run's limits.
use Prim.Native.Nat.{ℕ}
use mathlib.Core.Path.{◌≡◌, sym, ap, ◌∙◌}
use mathlib.Core.List.{List}
use lib.IntN.{ℤ}
use lib.ListN.{length}
use Rattle.model.specs.Mesh.{Mesh, run_cells, run_faces}
use Rattle.model.specs.Causes.{accepted, fine, ◌and_then◌}
use Rattle.model.specs.Answers.{number, told}
use Rattle.model.specs.declared.Refusal.{Refusal}
use Rattle.model.proofs.Verdicts.{refused-of, accepted-of}
use Rattle.record_layouts.specs.Layouts.{kind_number}
use Rattle.record_heads.specs.Heads.{kind_in}
use Rattle.record_layouts.specs.declared.Width.{Width}
use Rattle.record_layouts.specs.declared.StepKind.{StepKind}
use Rattle.record_reading.specs.Reading.{step_read}
use Rattle.record_reading.specs.Answers.{step_read_said, StepReading}
use Rattle.taking.specs.Taking.{step_record_found}
use Rattle.std.specs.Prelude.{Result, Ok, Err}

module _ (w : Width) (M : Mesh) {bs : List ℕ} {fluxes : List ℤ} {outsides releases : List ℕ} {a : Result StepKind Refusal} {fluxes' : List ℤ} {outsides' releases' : List ℕ}
    (s : StepReading w (step_read w M.cells M.faces M.seconds bs (length fluxes) (length outsides) (length releases)) M.cells M.faces
    M.seconds bs
    fluxes outsides releases a fluxes' outsides' releases')
    (fl : length fluxes ≡ run_faces) (ol : length outsides ≡ run_faces) (rl : length releases ≡ run_cells) where
  read-said : step_read_said w a ≡ (step_record_found w M bs and_then accepted (kind_in bs))
  unfolding step_record_found step_read
  read-said = rw (fl, ol, rl) at s.answer

  pub unread : {r : Refusal} → a ≡ Err r → step_record_found w M bs ≡ told r
  unread {r = r} d = refused-of (step_record_found w M bs) (kind_in bs) (number r.cause) r.place (sym (ap (step_read_said w) d) ∙ read-said)

  pub read-fine : {kind : StepKind} → a ≡ Ok kind → step_record_found w M bs ≡ fine
  read-fine {kind = kind} d = (accepted-of (step_record_found w M bs) (kind_in bs) (kind_number w kind) (sym (ap (step_read_said w) d) ∙ read-said)).0

  pub kind-read : {kind : StepKind} → a ≡ Ok kind → kind_number w kind ≡ kind_in bs
  kind-read {kind = kind} d = (accepted-of (step_record_found w M bs) (kind_in bs) (kind_number w kind) (sym (ap (step_read_said w) d) ∙ read-said)).1
