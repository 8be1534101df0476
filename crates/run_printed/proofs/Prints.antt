-- The calls in the program's order print what the definition says. Each record read is the one at the front of the input, each answer is the
-- outcome that the definition names there, and each line is its text; the steps by induction on what the program does.
use Prim.Native.Nat.{ℕ, zero, suc, ◌+◌, ◌≤◌, ◌<◌, min}
use mathlib.Core.Path.{◌≡◌, refl, sym, ap, ◌∙◌}
use mathlib.Core.Bool.{Bool, true, false, cond}
use mathlib.Core.List.{List, [], ◌∷◌, ◌++◌, map}
use native.Mathlib.Omega.{arith}
use lib.ListN.{length, take, drop, replicate, length-take, length-drop, length-map}
use lib.Seq.{take-add, take_at}
use Rattle.lists.specs.Table.{table, over}
use Rattle.lists.proofs.Tables.{length-table}
use Rattle.model.specs.Mesh.{Mesh, run_cells, run_faces}
use Rattle.model.specs.Causes.{Outcome, accepted, refused, Verdict, granted}
use Rattle.record_bits.specs.Layout.{bytes_for}
use Rattle.record_layouts.specs.Layouts.{step_head_bits}
use Rattle.record_heads.specs.Heads.{step_needs}
use Rattle.record_layouts.specs.declared.Width.{Width}
use Rattle.record_reading.specs.Reading.{mesh_in, masses_in}
use Rattle.model.specs.Meshes.{over_mesh}
use Rattle.record_reading.specs.Answers.{counting}
use Rattle.record_reading.specs.declared.MeshCounts.{MeshCounts}
use Rattle.board.specs.Board.{entry_at, listed, entries_of, board_verdict, board_entries, board_size, unused}
use Rattle.board.specs.declared.Entry.{Entry}
use Rattle.board.proofs.Listed.{listed-count}
use Rattle.taking.specs.Taking.{StepTaking}
use Rattle.model.specs.declared.Printed.{Printed}
use Rattle.model.proofs.Verdicts.{accepted-of}
use Rattle.run_lines.specs.Lines.{Holds, step_line}
use Rattle.run_intake.specs.Intake.{still_needed, record_at}
use Rattle.run_board.specs.BoardLines.{board_lines}
use Rattle.run_session.specs.Session.{step_text, step_taken_line, goes_on, goes_on_after}
use Rattle.run_printed.specs.Run.{mesh_at, field_at, step_at, following, in_table, board_printed, step_comes_to, field_then, steps_printed}
use Rattle.run_printed.specs.Run.{from_field, field_printed, run_mesh, from_mesh, printed}
use Rattle.run_printed.specs.Program.{ReadIn, counted_bytes, BoardPrints, StepsPrint, no_byte, step_ends, step_goes_on}
use Rattle.run_printed.specs.Program.{FieldPrints, field_refused, field_accepted, empty_tables, Prints, mesh_refused, mesh_accepted}
use Rattle.run_lines.specs.declared.Line.{Line}
use Rattle.std.specs.Prelude.{Result}
use Rattle.model.specs.declared.Refusal.{Refusal}

-- what was taken can be counted and taken again
pub take_counted : (n : ℕ) (l : List ℕ) → take (length (take n l)) l ≡ take n l
take_counted zero l = refl
take_counted (suc n) [] = refl
take_counted (suc n) (x ∷ xs) = ap (λ (t : List ℕ). x ∷ t) (take_counted n xs)

-- the run's tables are as long as its limits
pub cells-long : length (table {A = ℕ} run_cells (λ i. 0)) ≡ run_cells
cells-long = length-table {A = ℕ} run_cells (λ i. 0)

pub faces-long : length (table {A = ℕ} run_faces (λ i. 0)) ≡ run_faces
faces-long = length-table {A = ℕ} run_faces (λ i. 0)

module _ (head : ℕ) (needs : List ℕ → Outcome ℕ) where
  is_read : {input bs : List ℕ} → ReadIn head needs input bs → bs ≡ record_at head needs input
  unfolding record_at
  is_read {input} r =
      let n = length (take head input) in
      let all : n + r.more ≡ n + still_needed (needs (take head input)) n = ap (λ (k : ℕ). n + k) (r.rest ∙ ap (λ (o : Outcome ℕ). still_needed o n) r.asked)
      in
      r.read ∙ ap (λ (t : List ℕ). t ++ take r.more (drop n input)) (sym (take_counted head input)) ∙ sym (take-add n r.more input)
      ∙ ap (λ (k : ℕ). take k input) all

  some_byte : (b : ℕ) (bs : List ℕ) → 0 < head → 0 < length (record_at head needs (b ∷ bs))
  unfolding record_at
  some_byte b bs h = rw (length-take, length-take) (omega arith)

  no_longer : (input : List ℕ) → length (record_at head needs input) ≤ length input
  unfolding record_at
  no_longer input = rw length-take (omega arith)

module _ (M : Mesh) where
  open M use {cells, volumes}

  -- the entries used are those of the cells listed
  pub entries-used : (masses : List ℕ) (v : Verdict)
      → board_lines (take (granted v (min board_size cells) 0) (granted v (board_entries volumes masses cells) (replicate board_size unused)))
      ≡ granted v (board_lines (map (entry_at volumes masses) (listed volumes masses cells))) []
  unfolding entries_of over board_lines
  entries-used masses (accepted u) =
      let used = map (entry_at volumes masses) (listed volumes masses cells) in
      let count : length used ≡ min board_size cells = length-map (listed volumes masses cells) (entry_at volumes masses) ∙ listed-count volumes masses cells in
      ap board_lines (take_at used _ (min board_size cells) count)
  entries-used masses (refused i j) = refl

  board-printed : {masses out : List ℕ} → BoardPrints M masses out → out ≡ board_printed M masses
  unfolding board_printed
  board-printed {masses} p =
      p.lines ∙ ap (λ (n : ℕ). board_lines (take n p.answer.entries)) p.board.used_is
      ∙ ap (λ (es : List Entry). board_lines (take (granted (board_verdict volumes masses cells) (min board_size cells) 0) es)) p.board.entries_are
      ∙ entries-used masses (board_verdict volumes masses cells)

module _ (w : Width) (M : Mesh) where
  open M use {cells}

  -- one step: its line, and then what its answer leads to
  module _ (step : ℕ) (masses masses' bs : List ℕ) (r : Result Printed Refusal) (line : Line) (t : StepTaking w M masses bs r masses')
      (h : Holds line (step_taken_line step r)) where
    one-step : (out : List ℕ) (b : Bool) → b ≡ goes_on r → (more last : List ℕ) → out ≡ cond b more last
        → counted_bytes line ++ out ≡ step_text step (step_comes_to w M masses bs) ++ cond (goes_on_after (step_comes_to w M masses bs)) more last
    one-step out b g more last e =
        ap (λ (x : List ℕ). x ++ out) (h.1 ∙ ap (λ (o : Outcome Printed). step_text step o) t.answer)
        ∙ ap (λ (x : List ℕ). step_text step (step_comes_to w M masses bs) ++ x) (e ∙ ap (λ (x : Bool). cond x more last) (g ∙ ap goes_on_after t.answer))

  abbrev head_bytes : ℕ
  head_bytes = bytes_for step_head_bits

  abbrev needs : List ℕ → Outcome ℕ
  needs = step_needs w M.cells M.faces M.seconds

  turn : (most step : ℕ) (masses input : List ℕ) → 0 < length (step_at w M input)
      → step_text step (step_comes_to w M masses (step_at w M input))
      ++ cond (goes_on_after (step_comes_to w M masses (step_at w M input)))
      (steps_printed w M most (step + 1) (field_then w M masses (step_at w M input)) (following (step_at w M input) input))
      (board_printed M (field_then w M masses (step_at w M input)))
      ≡ steps_printed w M (suc most) step masses input
  unfolding steps_printed
  turn most step masses [] h = absurd (omega (arith, no_longer head_bytes needs []))
  turn most step masses (b ∷ bs) h = refl

  no_step : (most step : ℕ) (masses input : List ℕ) → length (step_at w M input) ≡ 0 → board_printed M masses ≡ steps_printed w M most step masses input
  unfolding steps_printed bytes_for
  no_step zero step masses input z = refl
  no_step (suc most) step masses [] z = refl
  no_step (suc most) step masses (b ∷ bs) z = absurd (omega (arith, some_byte head_bytes needs b bs (omega arith)))

  steps-printed : {step : ℕ} {masses input out : List ℕ} → StepsPrint w M step masses input out → (most : ℕ) → length input ≤ most
      → out ≡ steps_printed w M most step masses input
  steps-printed {step} {masses} {input} (no_byte bs r z p) most l =
      board-printed M p ∙ no_step most step masses input (rw (is_read _ _ r) at z)
  steps-printed {input = input} (step_ends bs r line g s t h e p) zero l = absurd (omega (arith, no_longer head_bytes needs input, rw (is_read _ _ g) at s))
  steps-printed {step} {masses} {input} (step_ends {masses' = masses'} {out = out} bs r line g s t h e p) (suc most) l =
      let q = is_read _ _ g in
      let t' : StepTaking w M masses (step_at w M input) r masses' = rw q at t in
      one-step step masses masses' (step_at w M input) r line t' h out false e _ _ (board-printed M p ∙ ap (board_printed M) t'.masses-after)
      ∙ turn most step masses input (rw q at s)
  steps-printed {input = input} (step_goes_on bs r line g s t h e p) zero l = absurd (omega (arith, no_longer head_bytes needs input, rw (is_read _ _ g) at s))
  steps-printed {step} {masses} {input} (step_goes_on {masses' = masses'} {out = out} bs r line g s t h e p) (suc most) l =
      let q = is_read _ _ g in
      let t' : StepTaking w M masses (step_at w M input) r masses' = rw q at t in
      let left : length (drop (length bs) input) ≤ most = rw length-drop (omega arith) in
      let rest = steps-printed p most left
      ∙ ap (λ (x : List ℕ). steps_printed w M most (step + 1) x (drop (length bs) input)) t'.masses-after
      ∙ ap (λ (x : List ℕ). steps_printed w M most (step + 1) (field_then w M masses (step_at w M input)) (drop (length x) input)) q in
      one-step step masses masses' (step_at w M input) r line t' h out true e _ _ rest ∙ turn most step masses input (rw q at s)

  field-printed : {input out : List ℕ} → FieldPrints w M input out → out ≡ field_printed w M input
  unfolding field_printed
  field-printed {input} (field_refused bs masses refusal line g t h) =
      let said = rw (is_read _ _ g, cells-long) at t.answer in
      h.1 ∙ ap (λ (o : Outcome ℕ). from_field w M o (in_table run_cells (masses_in (field_at w M input) cells)) (following (field_at w M input) input)) said
  field-printed {input} (field_accepted {out} bs masses sum line g t h p) =
      let q = is_read _ _ g in
      let said = rw (q, cells-long) at t.answer in
      let v = accepted-of _ _ _ said in
      let held : masses ≡ in_table run_cells (masses_in (field_at w M input) cells) = rw (q, cells-long, v.0) at t.masses-after in
      let rest = steps-printed p (length (drop (length bs) input)) (omega arith) in
      ap (λ (x : List ℕ). x ++ out) h.1
      ∙ ap (λ (x : List ℕ). step_line 0 0 0 sum 0 ++ x) (rest
      ∙ ap (λ (x : List ℕ). steps_printed w M (length (drop (length bs) input)) 1 x (drop (length bs) input)) held
      ∙ ap (λ (x : List ℕ). steps_printed w M (length (drop (length x) input)) 1 (in_table run_cells (masses_in (field_at w M input) cells)) (drop (length x) input))
      q)
      ∙ ap (λ (o : Outcome ℕ). from_field w M o (in_table run_cells (masses_in (field_at w M input) cells)) (following (field_at w M input) input)) said

-- What the program prints is what the definition says of the bytes that it reads.
pub prints : {input out : List ℕ} → Prints input out → out ≡ printed input
unfolding printed
prints {input} (mesh_refused bs left refusal line g t h) =
    let said = rw (is_read _ _ g, cells-long, faces-long) at t.answer in
    h.1 ∙ ap (λ (o : Outcome MeshCounts). from_mesh o (run_mesh (mesh_at input)) (following (mesh_at input) input)) said
prints {input} (mesh_accepted {out} bs left counts g t p) =
    let q = is_read _ _ g in
    let said = rw (q, cells-long, faces-long) at t.answer in
    let v = accepted-of _ _ _ said in
    let held : left ≡ over_mesh (mesh_in (mesh_at input)) empty_tables = rw (q, cells-long, faces-long, v.0) at t.mesh_after in
    let same : counting counts left ≡ run_mesh (mesh_at input) = rw (v.1, held) in
    field-printed _ _ p ∙ ap (λ (M : Mesh). field_printed counts.width M (drop (length bs) input)) same
    ∙ ap (λ (x : List ℕ). field_printed counts.width (run_mesh (mesh_at input)) (drop (length x) input)) q
    ∙ ap (λ (o : Outcome MeshCounts). from_mesh o (run_mesh (mesh_at input)) (following (mesh_at input) input)) said
