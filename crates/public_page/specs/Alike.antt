-- Document 02, S-14: what the public page tells of withheld cells, which is nothing.
use Rattle.std.specs.Prelude.{ℕ, ◌≡◌, List, Result}
use Rattle.public_marks.specs.Marks.{SameInOpen}
use Rattle.page.specs.Answers.{page_said}
use Rattle.public_page.specs.Public.{PublicPageIs}
use Rattle.model.specs.declared.Refusal.{Refusal}

-- Two calls of `public_page` as they were made, with one page number and equal bytes lent: answers, refusals included, and bytes are equal.
abbrev pub PageTellsNothing : Type 0
PageTellsNothing = (volumes marks : List ℕ) (cells : ℕ) (masses masses' : List ℕ) → SameInOpen volumes marks cells masses masses'
    → (page : ℕ) (bytes : List ℕ) (r r' : Result ℕ Refusal) (after after' : List ℕ)
    → PublicPageIs volumes masses marks cells page bytes r after → PublicPageIs volumes masses' marks cells page bytes r' after'
    → (page_said r ≡ page_said r') × (after ≡ after')
