-- What the run program does, call by call. Each fact is the contract of the call that run/src, run_session/src, run_board/src or run_intake/src makes at
-- that place; the order is the program's. Of reading and writing no contract can speak: it is taken here that a read gives the next bytes of
-- the input, fewer only where it ends, and that a write prints what it is lent. Bytes of steps are read ahead and kept in their order, and
-- their lines are put one after another and written together: `HeldAhead` of run_intake/specs/Intake.antt, `add` of run_session/src/printing.rt.
use Rattle.std.specs.Prelude.{ℕ, ◌+◌, ◌<◌, ◌≡◌, true, false, List, ◌++◌, length, take, drop, Result, Ok, Err}
use Rattle.lists.specs.Table.{table}
use Rattle.model.specs.Mesh.{Mesh, mesh_of, run_cells, run_faces}
use Rattle.model.specs.Causes.{Outcome}
use Rattle.model.specs.declared.Refusal.{Refusal}
use Rattle.record_bits.specs.Layout.{bytes_for}
use Rattle.record_layouts.specs.Layouts.{mesh_head_bits, field_head_bits, step_head_bits}
use Rattle.record_heads.specs.Heads.{length_said, mesh_needs, field_needs, step_needs}
use Rattle.record_layouts.specs.declared.Width.{Width}
use Rattle.record_reading.specs.Answers.{counting}
use Rattle.record_reading.specs.declared.MeshCounts.{MeshCounts}
use Rattle.board.specs.Board.{BoardIs}
use Rattle.board.specs.declared.BoardAnswer.{BoardAnswer}
use Rattle.taking_mesh.specs.MeshTaking.{MeshTaking}
use Rattle.taking.specs.Taking.{FieldTaking, StepTaking}
use Rattle.run_lines.specs.Lines.{Holds, letter_m, letter_f}
use Rattle.run_intake.specs.Intake.{still_needed}
use Rattle.run_board.specs.BoardLines.{board_lines}
use Rattle.run_session.specs.Session.{refused_text, start_text, step_taken_line, goes_on}
use Rattle.run_lines.specs.declared.Line.{Line}
use Rattle.model.specs.declared.Printed.{Printed}

-- intake: the head, what `record_heads` says of it, what `run_intake::still_needed` says is still to come.
pub record ReadIn (head : ℕ) (needs : List ℕ → Outcome ℕ) (input bs : List ℕ) : Type 0 where
  pub answer : Result ℕ Refusal
  pub more : ℕ
  pub asked : length_said answer ≡ needs (take head input)
  pub rest : more ≡ still_needed (length_said answer) (length (take head input))
  pub read : bs ≡ take head input ++ take more (drop (length (take head input)) input)

-- `print`: the counted bytes of a line.
abbrev pub counted_bytes : Line → List ℕ
counted_bytes line = take line.used line.bytes

-- board_lines.rt: what `board` answers, and the lines that `run_board::put` puts of it.
pub record BoardPrints (M : Mesh) (masses out : List ℕ) : Type 0 where
  pub answer : BoardAnswer
  pub board : BoardIs M.cells M.volumes masses answer
  pub lines : out ≡ board_lines (take answer.used answer.entries)

-- `steps`: a record is read; where no byte came, or after a refusal that ends the run, the board; else another step.
pub data StepsPrint (w : Width) (M : Mesh) : ℕ → List ℕ → List ℕ → List ℕ → Type 0 where
  no_byte : {step : ℕ} {masses input out : List ℕ} (bs : List ℕ) → ReadIn (bytes_for step_head_bits) (step_needs w M.cells M.faces M.seconds) input bs
      → length bs ≡ 0 → BoardPrints M masses out → StepsPrint w M step masses input out
  step_ends : {step : ℕ} {masses input masses' out : List ℕ} (bs : List ℕ) (r : Result Printed Refusal) (line : Line)
      → ReadIn (bytes_for step_head_bits) (step_needs w M.cells M.faces M.seconds) input bs → 0 < length bs
      → StepTaking w M masses bs r masses' → Holds line (step_taken_line step r) → false ≡ goes_on r
      → BoardPrints M masses' out → StepsPrint w M step masses input (counted_bytes line ++ out)
  step_goes_on : {step : ℕ} {masses input masses' out : List ℕ} (bs : List ℕ) (r : Result Printed Refusal) (line : Line)
      → ReadIn (bytes_for step_head_bits) (step_needs w M.cells M.faces M.seconds) input bs
      → 0 < length bs → StepTaking w M masses bs r masses' → Holds line (step_taken_line step r) → true ≡ goes_on r
      → StepsPrint w M (step + 1) masses' (drop (length bs) input) out → StepsPrint w M step masses input (counted_bytes line ++ out)

-- `run_on`: the field, in a table of zeros; refused, it has the only line; else the line of step 0 and the steps.
pub data FieldPrints (w : Width) (M : Mesh) (input : List ℕ) : List ℕ → Type 0 where
  field_refused : (bs masses : List ℕ) (refusal : Refusal) (line : Line) → ReadIn (bytes_for field_head_bits) (field_needs w M.cells) input bs
      → FieldTaking w M.cells M.volumes bs (table run_cells (λ i. 0)) (Err refusal) masses
      → Holds line (refused_text letter_f refusal) → FieldPrints w M input (counted_bytes line)
  field_accepted : {out : List ℕ} (bs masses : List ℕ) (sum : ℕ) (line : Line) → ReadIn (bytes_for field_head_bits) (field_needs w M.cells) input bs
      → FieldTaking w M.cells M.volumes bs (table run_cells (λ i. 0)) (Ok sum) masses
      → Holds line (start_text sum) → StepsPrint w M 1 masses (drop (length bs) input) out → FieldPrints w M input (counted_bytes line ++ out)

-- `main`: the mesh, in tables of zeros; refused, it has the only line.
abbrev pub empty_tables : Mesh
empty_tables = mesh_of run_cells run_faces (table run_cells (λ i. 0)) (table run_faces (λ i. 0)) (table run_faces (λ i. 0)) (table run_faces (λ i. 0))
    (table run_faces (λ i. 0))

pub data Prints (input : List ℕ) : List ℕ → Type 0 where
  mesh_refused : (bs : List ℕ) (left : Mesh) (refusal : Refusal) (line : Line) → ReadIn (bytes_for mesh_head_bits) (mesh_needs run_cells run_faces) input bs
      → MeshTaking bs empty_tables (Err refusal) left
      → Holds line (refused_text letter_m refusal) → Prints input (counted_bytes line)
  mesh_accepted : {out : List ℕ} (bs : List ℕ) (left : Mesh) (counts : MeshCounts) → ReadIn (bytes_for mesh_head_bits) (mesh_needs run_cells run_faces) input bs
      → MeshTaking bs empty_tables (Ok counts) left → FieldPrints counts.width (counting counts left) (drop (length bs) input) out
      → Prints input out
