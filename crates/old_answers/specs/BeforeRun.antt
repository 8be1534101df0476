-- Document 01, "The board and the run", before S-10: what a run prints, by the definitions of Before.antt.
use Rattle.std.specs.Prelude.{ℕ, zero, suc, ◌+◌, cond, List, [], ◌∷◌, ◌++◌, map, length}
use Rattle.model.specs.Mesh.{Mesh, total, run_cells, run_faces}
use Rattle.model.specs.Causes.{Outcome, accepted, refused, Verdict, ◌and_then◌, granted, cells_only}
use Rattle.model.specs.Calls.{mass_in}
use Rattle.board.specs.Board.{entry_at, listed}
use Rattle.taking.specs.Taking.{printed_of, masses_after}
use Rattle.model.specs.declared.Printed.{Printed}
use Rattle.run_lines.specs.Lines.{letter_m, letter_f, refusal_line, step_line}
use Rattle.run_intake.specs.Intake.{record_at}
use Rattle.run_board.specs.BoardLines.{board_lines}
use Rattle.run_session.specs.Session.{step_text, goes_on_after}
use Rattle.run_printed.specs.Run.{in_table, in_tables, following}
use Rattle.old_answers.specs.Before.{old_mesh_in, old_masses_in, old_step_in, old_mesh_needs, old_field_needs, old_step_needs, old_mesh_judged, old_cells_verdict, old_field_judged, old_step_judged}

-- a record at the front of the input: its head of 4 or 2 bytes, and what that asks for
abbrev pub old_mesh_at : List ℕ → List ℕ
old_mesh_at input = record_at 4 (old_mesh_needs run_cells run_faces) input

module _ (M : Mesh) where
  abbrev pub old_field_at : List ℕ → List ℕ
  old_field_at input = record_at 2 (old_field_needs M.cells) input

  abbrev pub old_step_at : List ℕ → List ℕ
  old_step_at input = record_at 4 (old_step_needs M.cells M.faces M.seconds) input

  -- the board
  unfoldable pub old_board_printed : List ℕ → List ℕ
  old_board_printed masses = granted (old_cells_verdict M.cells M.volumes masses)
      (board_lines (map (entry_at M.volumes masses) (listed M.volumes masses M.cells))) []

  -- the steps until no byte is left, or one is refused by 11 or 13; then the board
  abbrev pub old_step_said : List ℕ → List ℕ → Outcome Printed
  old_step_said masses bs = old_step_judged M masses bs and_then accepted (printed_of M masses (old_step_in M bs))

  abbrev pub old_field_then : List ℕ → List ℕ → List ℕ
  old_field_then masses bs = masses_after M masses (old_step_judged M masses bs) (old_step_in M bs)

  unfoldable pub old_steps_printed : ℕ → ℕ → List ℕ → List ℕ → List ℕ
  old_steps_printed zero step masses input = old_board_printed masses
  old_steps_printed (suc most) step masses [] = old_board_printed masses
  old_steps_printed (suc most) step masses (b ∷ bs) =
      step_text step (old_step_said masses (old_step_at (b ∷ bs)))
      ++ cond (goes_on_after (old_step_said masses (old_step_at (b ∷ bs))))
      (old_steps_printed most (step + 1) (old_field_then masses (old_step_at (b ∷ bs))) (following (old_step_at (b ∷ bs)) (b ∷ bs)))
      (old_board_printed (old_field_then masses (old_step_at (b ∷ bs))))

  -- the field: its total is the line of step 0
  abbrev pub old_field_said : List ℕ → Outcome ℕ
  old_field_said bs = old_field_judged M.cells M.volumes bs run_cells
      and_then accepted (total (cells_only M.cells M.volumes) (mass_in (old_masses_in bs M.cells)))

  abbrev pub old_from_field : Outcome ℕ → List ℕ → List ℕ → List ℕ
  old_from_field (accepted sum) masses input = step_line 0 0 0 sum 0 ++ old_steps_printed (length input) 1 masses input
  old_from_field (refused i j) masses input = refusal_line letter_f i j

  unfoldable pub old_field_printed : List ℕ → List ℕ
  old_field_printed input = old_from_field (old_field_said (old_field_at input)) (in_table run_cells (old_masses_in (old_field_at input) M.cells))
      (following (old_field_at input) input)

-- the mesh
abbrev pub old_from_mesh : Verdict → Mesh → List ℕ → List ℕ
old_from_mesh (accepted _) M input = old_field_printed M input
old_from_mesh (refused i j) M input = refusal_line letter_m i j

unfoldable pub old_printed : List ℕ → List ℕ
old_printed input = old_from_mesh (old_mesh_judged (old_mesh_at input) run_cells run_faces run_faces run_faces run_faces) (in_tables (old_mesh_in (old_mesh_at input)))
    (following (old_mesh_at input) input)
