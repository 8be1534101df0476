-- Document 02, S-14: what the public board tells of withheld cells, which is nothing.
use Rattle.std.specs.Prelude.{ℕ, ◌≡◌, List}
use Rattle.model.specs.Answers.{said}
use Rattle.public_marks.specs.Marks.{SameInOpen}
use Rattle.board.specs.declared.BoardAnswer.{BoardAnswer}
use Rattle.public_board.specs.Public.{PublicBoardIs}

-- Two calls of `public_board` as they were made: answers, refusals included, are equal.
abbrev pub BoardTellsNothing : Type 0
BoardTellsNothing = (volumes marks : List ℕ) (cells : ℕ) (masses masses' : List ℕ) → SameInOpen volumes marks cells masses masses'
    → (r r' : BoardAnswer) → PublicBoardIs volumes masses marks cells r → PublicBoardIs volumes masses' marks cells r'
    → (said r.verdict ≡ said r'.verdict) × (r.used ≡ r'.used) × (r.entries ≡ r'.entries)
