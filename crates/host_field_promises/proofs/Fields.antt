-- What the total, a page and a board answer in C, from what the call on tables promises: the bytes are those, and its answer is a number with what it finds.
use Prim.Native.Nat.{ℕ}
use mathlib.Core.Path.{◌≡◌}
use mathlib.Core.List.{List}
use Rattle.lists.specs.Fold.{sum}
use Rattle.model.specs.Causes.{Outcome, accepted, ◌and_then◌, mesh_field_verdict, cells_only}
use Rattle.model.specs.Calls.{mass_in}
use Rattle.page.specs.Answers.{page_said, PageIs}
use Rattle.public_page.specs.Public.{PublicPageIs}
use Rattle.board.specs.Board.{BoardIs}
use Rattle.board.specs.declared.BoardAnswer.{BoardAnswer}
use Rattle.public_board.specs.Public.{PublicBoardIs}
use Rattle.host_answer.specs.Found.{alone, Answered}
use Rattle.host_answer.proofs.Answers.{answered-as}
use Rattle.host_field_promises.specs.Field.{TotalFromC, PageFromC, PublicPageFromC}
use Rattle.host_field_promises.specs.Board.{shown_numbers, board_said, BoardFromC, PublicBoardFromC}
use Rattle.host_field_promises.proofs.Boards.{board-is, board-after}
use Rattle.std.specs.Prelude.{Result}
use Rattle.model.specs.declared.Refusal.{Refusal}

module _ (cells : ℕ) (volumes masses : List ℕ) {found : List ℕ} {r : ℕ} {found' : List ℕ} where
  pub total-from-c : {o : Outcome ℕ} → o ≡ (mesh_field_verdict (cells_only cells volumes) masses and_then accepted (sum cells (mass_in masses)))
      → Answered alone o found r found' → TotalFromC cells volumes masses found r found'
  total-from-c h x = answered-as alone found h x

  module _ {page : ℕ} {bytes bytes' : List ℕ} {a : Result ℕ Refusal} where
    pub page-from-c : PageIs volumes masses cells page bytes a bytes' → Answered alone (page_said a) found r found'
        → PageFromC volumes masses cells page bytes found r bytes' found'
    page-from-c h x = record { answer = answered-as alone found h.answer x; bytes_after = h.bytes_after }

    pub public-page-from-c : {marks : List ℕ} → PublicPageIs volumes masses marks cells page bytes a bytes' → Answered alone (page_said a) found r found'
        → PublicPageFromC volumes masses marks cells page bytes found r bytes' found'
    public-page-from-c h x = record { answer = answered-as alone found h.answer x; bytes_after = h.bytes_after }

  module _ {b : BoardAnswer} where
    pub board-from-c : BoardIs cells volumes masses b → Answered shown_numbers (board_said b) found r found' → BoardFromC cells volumes masses found r found'
    board-from-c h x = answered-as shown_numbers found (board-is h) x

    pub public-board-from-c : (marks : List ℕ) → PublicBoardIs volumes masses marks cells b → Answered shown_numbers (board_said b) found r found'
        → PublicBoardFromC cells volumes masses marks found r found'
    public-board-from-c marks h x = answered-as shown_numbers found (board-after h) x
