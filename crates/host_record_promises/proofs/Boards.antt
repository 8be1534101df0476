-- Boards of records: past the records' causes it is the board's call that finds and ranks.
use Prim.Native.Nat.{ℕ, ◌^◌, ◌<◌}
use mathlib.Core.Path.{◌≡◌, sym, ap, ◌∙◌}
use mathlib.Core.List.{List}
use lib.ListN.{take}
use Rattle.model.specs.Causes.{accepted, refused, Verdict, fine, ◌and_then◌, cells_only}
use Rattle.model.proofs.Verdicts.{past, out}
use Rattle.record_reading.specs.Reading.{mesh_in}
use Rattle.board.specs.Board.{BoardIs}
use Rattle.board.specs.declared.BoardAnswer.{BoardAnswer}
use Rattle.public_board.specs.Public.{PublicBoardIs}
use Rattle.host_answer.specs.Number.{number_of}
use Rattle.host_answer.proofs.Small.{small-and, small-giving, small-number}
use Rattle.host_answer.proofs.Tables.{mesh-field-small}
use Rattle.host_field_promises.specs.Board.{board_said}
use Rattle.host_field_promises.proofs.Boards.{board-said}
use Rattle.host_field_promises.proofs.BoardSmall.{public-small}
use Rattle.host_tested.specs.Tested.{field_tested, field_in}
use Rattle.host_taking.specs.Taken.{CellsTaking}
use Rattle.host_taking.specs.declared.FieldCounts.{FieldCounts}
use Rattle.host_taking.proofs.Held.{tested-fine, cells-as}
use Rattle.host_tested.proofs.Small.{field-tested-small}
use Rattle.host_record_promises.specs.Boards.{board_found, public_board_found}
use Rattle.std.specs.Prelude.{Result, Ok}
use Rattle.model.specs.declared.Refusal.{Refusal}

-- what is given after a part that is fine
giving-past : {A : Type 0} {u : Verdict} (v : Verdict) (x : A) → u ≡ fine → (v and_then accepted x) ≡ (u and_then v and_then accepted x)
giving-past v x e = sym (ap (λ (w : Verdict). w and_then accepted x) (past v e))

module _ (mesh field : List ℕ) {a : Result FieldCounts Refusal} {volumes masses : List ℕ} (t : CellsTaking mesh field a volumes masses) {n : FieldCounts} (d : a ≡ Ok n)
    {b : BoardAnswer} where
  pub board-made : BoardIs n.cells (take n.cells volumes) (take n.cells masses) b → board_said b ≡ board_found mesh field
  board-made q =
      let p = cells-as mesh field t d (λ m vs ms. BoardIs m vs ms b) q in
      board-said _ _ _ _ _ _ _ p.verdict_is p.used_is p.entries_are
      ∙ giving-past _ _ (tested-fine mesh field t.answer d)

  pub public-made : (marks : List ℕ) → PublicBoardIs (take n.cells volumes) (take n.cells masses) marks n.cells b → board_said b ≡ public_board_found mesh
      field marks
  public-made marks q =
      let p = cells-as mesh field t d (λ m vs ms. PublicBoardIs vs ms marks m b) q in
      board-said _ _ _ _ _ _ _ p.verdict_is p.used_is p.entries_are
      ∙ giving-past _ _ (tested-fine mesh field t.answer d)

-- what is refused of the records is the board's answer
module _ (mesh field : List ℕ) {k i : ℕ} (e : field_tested mesh field ≡ refused k i) where
  pub board-untaken : board_found mesh field ≡ refused k i
  board-untaken = out _ (out _ e)

  pub public-untaken : (marks : List ℕ) → public_board_found mesh field marks ≡ refused k i
  public-untaken marks = out _ (out _ e)

-- the number fits
module _ (mesh field : List ℕ) where
  pub board-fits : number_of (board_found mesh field) < 2 ^ 64
  board-fits = small-number _ (small-giving _ (small-and (field-tested-small mesh field)
      (mesh-field-small (cells_only (mesh_in mesh).cells (mesh_in mesh).volumes) (field_in mesh field))))

  pub public-fits : (marks : List ℕ) → number_of (public_board_found mesh field marks) < 2 ^ 64
  public-fits marks = small-number _ (small-giving _ (small-and (field-tested-small mesh field)
      (public-small (mesh_in mesh).volumes (field_in mesh field) marks (mesh_in mesh).cells)))
