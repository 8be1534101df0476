-- Document 01, "The board and the run": what a run prints of the bytes that it reads.
use Rattle.std.specs.Prelude.{ℕ, zero, suc, ◌+◌, cond, List, [], ◌∷◌, ◌++◌, map, length, drop}
use Rattle.lists.specs.Table.{table, over}
use Rattle.model.specs.Mesh.{Mesh, mesh_of, total, run_cells, run_faces}
use Rattle.model.specs.Causes.{Outcome, accepted, refused, ◌and_then◌, granted, cells_only}
use Rattle.model.specs.Calls.{mass_in}
use Rattle.record_bits.specs.Layout.{bytes_for}
use Rattle.record_layouts.specs.Layouts.{mesh_head_bits, field_head_bits, step_head_bits}
use Rattle.record_reading.specs.Reading.{mesh_in, counts_in, masses_in}
use Rattle.record_heads.specs.Heads.{mesh_needs, field_needs, step_needs}
use Rattle.record_layouts.specs.declared.Width.{Width}
use Rattle.record_reading.specs.declared.MeshCounts.{MeshCounts}
use Rattle.board.specs.Board.{entry_at, listed, board_verdict}
use Rattle.taking_mesh.specs.MeshTaking.{mesh_judged_in_run}
use Rattle.taking.specs.Taking.{field_judged, step_judged, step_in, printed_of, masses_after}
use Rattle.model.specs.declared.Printed.{Printed}
use Rattle.run_lines.specs.Lines.{letter_m, letter_f, refusal_line, step_line}
use Rattle.run_intake.specs.Intake.{record_at}
use Rattle.run_board.specs.BoardLines.{board_lines}
use Rattle.run_session.specs.Session.{step_text, goes_on_after}

-- The run's tables are as long as its limits and 0 at first. Entries past the counts mean nothing.
abbrev pub in_table : ℕ → List ℕ → List ℕ
in_table n xs = over xs (table n (λ i. 0))

-- READING: a record after another.
abbrev pub mesh_at : List ℕ → List ℕ
mesh_at input = record_at (bytes_for mesh_head_bits) (mesh_needs run_cells run_faces) input

-- document 02, S-10: those after the mesh have its width
abbrev pub field_at : Width → Mesh → List ℕ → List ℕ
field_at w M input = record_at (bytes_for field_head_bits) (field_needs w M.cells) input

abbrev pub step_at : Width → Mesh → List ℕ → List ℕ
step_at w M input = record_at (bytes_for step_head_bits) (step_needs w M.cells M.faces M.seconds) input

-- what is left of the input after a record
abbrev pub following : List ℕ → List ℕ → List ℕ
following bs input = drop (length bs) input

-- THE BOARD: a line for each entry.
module _ (M : Mesh) where
  unfoldable pub board_printed : List ℕ → List ℕ
  board_printed masses = granted (board_verdict M.volumes masses M.cells)
      (board_lines (map (entry_at M.volumes masses) (listed M.volumes masses M.cells))) []

module _ (w : Width) (M : Mesh) where
  -- THE STEPS, until no byte is left. A refused one is numbered too, and moves nothing; 11 and 13 end the run. The board comes last.
  -- There are no more steps than the input has bytes.
  abbrev pub step_comes_to : List ℕ → List ℕ → Outcome Printed
  step_comes_to masses bs = step_judged w M masses bs and_then accepted (printed_of M masses (step_in M bs))

  abbrev pub field_then : List ℕ → List ℕ → List ℕ
  field_then masses bs = masses_after M masses (step_judged w M masses bs) (step_in M bs)

  unfoldable pub steps_printed : ℕ → ℕ → List ℕ → List ℕ → List ℕ
  steps_printed zero step masses input = board_printed M masses
  steps_printed (suc most) step masses [] = board_printed M masses
  steps_printed (suc most) step masses (b ∷ bs) =
      step_text step (step_comes_to masses (step_at w M (b ∷ bs)))
      ++ cond (goes_on_after (step_comes_to masses (step_at w M (b ∷ bs))))
      (steps_printed most (step + 1) (field_then masses (step_at w M (b ∷ bs))) (following (step_at w M (b ∷ bs)) (b ∷ bs)))
      (board_printed M (field_then masses (step_at w M (b ∷ bs))))

  -- THE FIELD. Refused, it has the only line; else its total is the line of step 0.
  abbrev pub field_said : List ℕ → Outcome ℕ
  field_said bs = field_judged w M.cells M.volumes bs run_cells
      and_then accepted (total (cells_only M.cells M.volumes) (mass_in (masses_in bs M.cells)))

  abbrev pub from_field : Outcome ℕ → List ℕ → List ℕ → List ℕ
  from_field (accepted sum) masses input = step_line 0 0 0 sum 0 ++ steps_printed (length input) 1 masses input
  from_field (refused i j) masses input = refusal_line letter_f i j

  unfoldable pub field_printed : List ℕ → List ℕ
  field_printed input = from_field (field_said (field_at w M input)) (in_table run_cells (masses_in (field_at w M input) M.cells))
      (following (field_at w M input) input)

-- THE MESH. Refused, it has the only line.
abbrev pub in_tables : Mesh → Mesh
in_tables M = mesh_of M.cells M.faces (in_table run_cells M.volumes) (in_table run_faces M.firsts) (in_table run_faces M.seconds)
    (in_table run_faces M.shares) (in_table run_faces M.reaches)

abbrev pub run_mesh : List ℕ → Mesh
run_mesh bs = in_tables (mesh_in bs)

abbrev pub mesh_said_of : List ℕ → Outcome MeshCounts
mesh_said_of bs = mesh_judged_in_run bs and_then accepted (counts_in bs)

abbrev pub from_mesh : Outcome MeshCounts → Mesh → List ℕ → List ℕ
from_mesh (accepted counts) M input = field_printed counts.width M input
from_mesh (refused i j) M input = refusal_line letter_m i j

unfoldable pub printed : List ℕ → List ℕ
printed input = from_mesh (mesh_said_of (mesh_at input)) (run_mesh (mesh_at input)) (following (mesh_at input) input)
