-- Each call as made, by its contract.
use Prim.Native.Nat.{ℕ}
use mathlib.Core.Path.{ap, ◌∙◌}
use mathlib.Core.List.{List}
use lib.ListN.{length}
use lib.IntN.{ℤ}
use Rattle.model.specs.Mesh.{Mesh, total}
use Rattle.model.specs.Causes.{accepted, Verdict, ◌and_then◌, cells_only}
use Rattle.model.specs.Calls.{mass_in}
use Rattle.record_sections.specs.Sections.{Section, column_in}
use Rattle.record_layouts.specs.Layouts.{kind_number, value_bits, mass_bits, release_bits, mesh_record, field_record, step_record, mesh_length, field_length, step_length}
use Rattle.record_heads.specs.Heads.{kind_in, width_in, mesh_head_verdict, step_head_verdict}
use Rattle.record_layouts.specs.declared.Width.TheVariants.{Narrow}
use Rattle.record_layouts.specs.declared.StepKind.{StepKind}
use Rattle.record_layouts.specs.declared.StepKind.TheVariants.{Water, Outfalls}
use Rattle.record_reading.specs.Reading.{mesh_in, masses_in, outsides_in, releases_in, mesh_body_verdict, step_body_verdict, mesh_read, step_read}
use Rattle.record_writing.specs.Writing.{StepWriting, mesh_write_verdict, field_write_verdict, step_write_verdict}
use Rattle.host_answer.specs.Number.{number_of}
use Rattle.run_printed.proofs.Prints.{prints}
use Rattle.old_answers.specs.Before.{old_field_judged, old_step_writing}
use Rattle.old_answers.specs.OldCalls.{OldReading, OldWriting, OldTaking}
use Rattle.old_answers.proofs.Outcomes.{same_after, granted-then, filled}
use Rattle.old_answers.proofs.Records.{mesh-found, read-kind-one, mesh-narrow, mesh-in, mesh-measured, old-field-read, old-masses, field-needs, step-found, read-shape, old-fluxes, step-needs}
use Rattle.old_answers.proofs.Taken.{kept_same, judged-kind-one, mesh-judged, field-judged, judged-masses, step-judged, judged-step-in, stepping-same, host-verdict, host-bytes}
use Rattle.old_answers.proofs.Runs.{run-same}
use Rattle.std.specs.Prelude.{Result}
use Rattle.model.specs.declared.Refusal.{Refusal}

pub old-reading : OldReading
unfolding mesh_read step_read outsides_in releases_in
old-reading = record {
  mesh-length = mesh-measured;
  field-length = field-needs;
  step-length = step-needs;
  mesh-read = λ {bs} {lent} k c.
      let u : Verdict = mesh_head_verdict lent.cells lent.faces bs
      and_then mesh_body_verdict bs (length lent.volumes) (length lent.firsts) (length lent.seconds) (length lent.shares) (length lent.reaches) in
      let one = read-kind-one bs lent.cells lent.faces _ _ _ _ _ in
      kept_same {u = u} {w = width_in bs} {M = mesh_in bs} (mesh-found bs k lent.cells lent.faces _ _ _ _ _) (λ h. mesh-narrow bs (one h))
      (λ h. mesh-in bs (one h)) (record { answer = c.answer; mesh_after = c.mesh-read ∙ granted-then u _ _ _ });
  field-read = λ cells {bs} {masses} c.
      let e = old-field-read cells bs (length masses) in
      (c.answer ∙ e, filled masses e (old-masses cells bs (length masses)) c.masses_read);
  step-read = λ cells faces seconds {bs} {fluxes} {outsides} {releases} c.
      let u : Verdict = step_head_verdict Narrow cells faces seconds bs
      and_then step_body_verdict cells faces seconds bs (length fluxes) (length outsides) (length releases) in
      let e = step-found cells faces seconds bs (length fluxes) (length outsides) (length releases) in
      let shape = read-shape cells faces seconds bs (length fluxes) (length outsides) (length releases) in (
        c.answer ∙ ap (λ (v : Verdict). v and_then accepted (kind_in bs)) e,
        filled fluxes e (old-fluxes cells faces seconds bs (length fluxes) (length outsides) (length releases)) (c.fluxes_read ∙ granted-then u _ _ _),
        filled outsides e (λ h. ap (λ (S : List Section). column_in bs S 2 0) (shape h)) (c.outsides_read ∙ granted-then u _ _ _),
        filled releases e (λ h. ap (λ (S : List Section). column_in bs S 3 0) (shape h)) (c.releases_read ∙ granted-then u _ _ _),
      );
}

step_written : (M : Mesh) (k : StepKind) (fluxes : List ℤ) (outsides releases bytes : List ℕ) (r : Result ℕ Refusal) (bytes' : List ℕ)
    → StepWriting Narrow M (kind_number Narrow k) fluxes outsides releases bytes r bytes'
    → old_step_writing M (kind_number Narrow k) fluxes outsides releases bytes r bytes'
unfolding step_write_verdict step_length step_record value_bits mass_bits release_bits
step_written M Water fluxes outsides releases bytes r bytes' c = c
step_written M Outfalls fluxes outsides releases bytes r bytes' c = c

pub old-writing : OldWriting
unfolding mesh_write_verdict field_write_verdict mesh_length field_length mesh_record field_record value_bits mass_bits
old-writing = record { mesh_written = λ M bytes r bytes' c. c; field_written = λ M masses bytes r bytes' c. c; step_written = step_written }

pub old-taking : OldTaking
old-taking = record {
  mesh_taken = λ bs k c.
      let one = judged-kind-one bs _ _ _ _ _ in
      kept_same (mesh-judged bs _ _ _ _ _ k) (λ h. mesh-narrow bs (one h)) (λ h. mesh-in bs (one h)) c;
  field_taken = λ cells volumes {bs} {masses} s c.
      let e = field-judged cells volumes s bs (length masses) in
      let held = judged-masses cells volumes bs (length masses) in (
        c.answer ∙ ap (λ (v : Verdict). v and_then accepted (total (cells_only cells volumes) (mass_in (masses_in bs cells)))) e
            ∙ same_after (old_field_judged cells volumes bs (length masses)) _ _
            (λ h. ap (λ (m : List ℕ). accepted (total (cells_only cells volumes) (mass_in m))) (held h)),
        filled masses e held c.masses-after,
      );
  step_taken = λ M masses bs s c. stepping-same (step-judged M bs masses s) (judged-step-in M bs masses) c;
  host = λ mesh field step {bytes} k c. (
    c.number ∙ ap number_of (host-verdict mesh field step k (length bytes)),
    host-bytes mesh field step k bytes c.next_field,
  );
  run = λ {input} k p. prints p ∙ run-same input k;
}
