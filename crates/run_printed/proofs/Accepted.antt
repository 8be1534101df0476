-- A session whose records are accepted has a run: each record is read, its answer told and its line put, step by step.
use Prim.Native.Nat.{ℕ, ◌+◌, ◌<◌, min}
use mathlib.Core.Path.{◌≡◌, refl, sym, ap, subst, ◌∙◌}
use mathlib.Core.List.{List, [], ◌++◌}
use native.Mathlib.Omega.{arith}
use lib.ListN.{length, take, drop, replicate}
use lib.Seq.{take-add, take-length}
use Rattle.model.specs.Mesh.{Mesh, run_cells, run_faces}
use Rattle.model.specs.Causes.{Outcome, accepted, fine, need, ◌and_then◌, granted}
use Rattle.model.specs.declared.Cause.TheVariants.{Length}
use Rattle.model.specs.declared.Printed.{Printed}
use Rattle.record_bits.specs.Layout.{bytes_for}
use Rattle.record_layouts.specs.Layouts.{mesh_head_bits, field_head_bits, step_head_bits}
use Rattle.record_layouts.specs.declared.Width.{Width}
use Rattle.record_heads.specs.Heads.{mesh_needs, field_needs, step_needs, step_head_verdict}
use Rattle.record_reading.specs.Reading.{mesh_in, counts_in, masses_in}
use Rattle.model.specs.Meshes.{over_mesh}
use Rattle.board.specs.Board.{board_verdict, board_entries, board_size, unused}
use Rattle.taking_mesh.specs.MeshTaking.{mesh_judged_in_run}
use Rattle.run_lines.specs.Lines.{Holds, step_line}
use Rattle.run_lines.specs.declared.Line.{Line}
use Rattle.run_intake.specs.Intake.{still_needed, record_at}
use Rattle.run_session.specs.Session.{start_text}
use Rattle.model.proofs.Verdicts.{accepted-of}
use Rattle.run_printed.specs.Run.{in_table, mesh_at, field_at, step_at, following, board_printed, step_comes_to, field_then, field_said, run_mesh}
use Rattle.run_printed.specs.Program.{ReadIn, StepsPrint, no_byte, step_goes_on, FieldPrints, field_accepted, empty_tables, Prints, mesh_accepted}
use Rattle.run_printed.proofs.Prints.{take_counted, cells-long, faces-long, entries-used}
use Rattle.std.specs.Prelude.{Ok, Err}

-- a text as a line
abbrev line_of : List ℕ → Line
line_of text = record { bytes = text; used = length text }

line-holds : (text : List ℕ) → Holds (line_of text) text
line-holds text = ((omega arith, sym (ap length (take-length text))), take-length text)

-- a record that its head asks for
read-in : (head : ℕ) (needs : List ℕ → Outcome ℕ) (input bs : List ℕ) (n : ℕ) → needs (take head input) ≡ accepted n → record_at head needs input ≡ bs
    → ReadIn head needs input bs
unfolding record_at
read-in head needs input bs n e q =
    let come = length (take head input) in
    record {
      answer = Ok n;
      more = still_needed (accepted n) come;
      asked = sym e;
      rest = refl;
      read = sym q ∙ ap (λ (o : Outcome ℕ). take (come + still_needed o come) input) e ∙ take-add come (still_needed (accepted n) come) input
          ∙ ap (λ (t : List ℕ). t ++ take (still_needed (accepted n) come) (drop come input)) (take_counted head input);
    }

module _ (w : Width) (M : Mesh) where
  open M use {cells, volumes}

  -- the last: no byte is left, and the board follows
  pub board-run : {step : ℕ} {masses : List ℕ} → board_verdict volumes masses cells ≡ fine → StepsPrint w M step masses [] (board_printed M masses)
  unfolding board_printed step_needs step_head_verdict need ◌and_then◌ bytes_for
  board-run {masses = masses} e =
      let v = board_verdict volumes masses cells in
      no_byte [] (record {
        answer = Err (record { cause = Length; place = 0 });
        more = 0;
        asked = refl;
        rest = refl;
        read = refl;
      }) refl (record {
        answer = record {
          verdict = Ok tt;
          used = granted v (min board_size cells) 0;
          entries = granted v (board_entries volumes masses cells) (replicate board_size unused);
        };
        board = record { verdict_is = sym e; used_is = refl; entries_are = refl };
        lines = sym (entries-used M masses v);
      })

  pub step_run : {step n : ℕ} {masses masses' input bs rest out : List ℕ} (p : Printed)
      → step_needs w M.cells M.faces M.seconds (take (bytes_for step_head_bits) input) ≡ accepted n → step_at w M input ≡ bs → 0 < length bs
      → following bs input ≡ rest → step_comes_to w M masses bs ≡ accepted p → field_then w M masses bs ≡ masses' → StepsPrint w M (step + 1) masses' rest out
      → StepsPrint w M step masses input (step_line step p.entered p.gone p.total p.released ++ out)
  step_run {step} {n} {masses} {masses'} {input} {bs} {rest} {out} p e q s r c m t =
      let text = step_line step p.entered p.gone p.total p.released in
      subst (λ (x : List ℕ). StepsPrint w M step masses input (x ++ out)) (take-length text)
      (step_goes_on bs (Ok p) (line_of text) (read-in _ _ input bs n e q) s (record { answer = sym c; masses-after = sym m }) (line-holds text) refl
      (subst (λ (x : List ℕ). StepsPrint w M (step + 1) masses' x out) (sym r) t))

  pub field-run : {sum n : ℕ} {input bs rest out : List ℕ} → field_needs w M.cells (take (bytes_for field_head_bits) input) ≡ accepted n → field_at w M input ≡ bs
      → following bs input ≡ rest → field_said w M bs ≡ accepted sum → StepsPrint w M 1 (in_table run_cells (masses_in bs M.cells)) rest out
      → FieldPrints w M input (start_text sum ++ out)
  field-run {sum} {n} {input} {bs} {rest} {out} e q r s t =
      let v = accepted-of _ _ _ (sym s) in
      subst (λ (x : List ℕ). FieldPrints w M input (x ++ out)) (take-length (start_text sum))
      (field_accepted bs (in_table run_cells (masses_in bs M.cells)) sum (line_of (start_text sum)) (read-in _ _ input bs n e q)
      (record { answer = rw cells-long (sym s); masses-after = rw (cells-long, v.0) })
      (line-holds (start_text sum)) (subst (λ (x : List ℕ). StepsPrint w M 1 (in_table run_cells (masses_in bs M.cells)) x out) (sym r) t))

pub mesh-run : {n : ℕ} {input bs rest out : List ℕ} → mesh_needs run_cells run_faces (take (bytes_for mesh_head_bits) input) ≡ accepted n → mesh_at input ≡ bs
    → following bs input ≡ rest → mesh_judged_in_run bs ≡ fine → FieldPrints (counts_in bs).width (run_mesh bs) rest out → Prints input out
unfolding ◌and_then◌
mesh-run {n} {input} {bs} {rest} {out} e q r v t =
    mesh_accepted bs (over_mesh (mesh_in bs) empty_tables) (counts_in bs) (read-in _ _ input bs n e q)
    (record { answer = rw (cells-long, faces-long, v); mesh_after = rw (cells-long, faces-long, v) })
    (subst (λ (x : List ℕ). FieldPrints (counts_in bs).width (run_mesh bs) x out) (sym r) t)
