-- Document 02, S-14: the page that the public reads. It is S-1's without the lines of withheld cells and without the mass.
use Rattle.std.specs.Prelude.{ℕ, ◌+◌, ◌*◌, ◌≡◌, List, length, Result}
use Rattle.lists.specs.Table.{over}
use Rattle.model.specs.Causes.{Verdict, accepted, ◌and_then◌, granted}
use Rattle.text.specs.Lines.{pieces}
use Rattle.public_marks.specs.Marks.{is_open, marks_long, marks_good}
use Rattle.page.specs.Page.{rest_places, page_cells, cells_on, line_if}
use Rattle.page.specs.Answers.{page_said, verdict_with}
use Rattle.model.specs.declared.Refusal.{Refusal}

module _ (volumes masses marks : List ℕ) where
  -- the lines of open cells, of the same sixty cell numbers as on the whole page
  unfoldable pub public_text : (places cells page : ℕ) → List ℕ
  public_text places cells page = pieces (cells_on cells page) (λ i. line_if volumes masses (is_open marks) places (page * page_cells + i))

  -- S-1's causes, with the marks' table among the tables and 27 at the end. The bytes lent have to hold what the growers read, the mass too.
  unfoldable pub public_page_verdict : (cells page room : ℕ) → Verdict
  public_page_verdict cells page room = verdict_with (marks_long marks cells) volumes masses cells page room and_then marks_good marks cells

  -- The answer is the public page's own length; it stands over the first bytes lent. A refusal leaves all.
  pub record PublicPageIs (cells page : ℕ) (bytes : List ℕ) (r : Result ℕ Refusal) (bytes' : List ℕ) : Type 0 where
    pub answer : page_said r ≡ (public_page_verdict cells page (length bytes) and_then accepted (length (public_text (rest_places cells volumes) cells page)))
    pub bytes_after : bytes' ≡ granted (public_page_verdict cells page (length bytes)) (over (public_text (rest_places cells volumes) cells page) bytes) bytes
