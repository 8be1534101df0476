-- What is made of a field, for a host in C: its total; document 02, S-1 and S-14: a page of the binder, whole or for the public. A page has a
-- number of 32 bits here, so that a place is a page.
use Rattle.std.specs.Prelude.{ℕ, ◌≡◌, List, length}
use Rattle.lists.specs.Fold.{sum}
use Rattle.lists.specs.Table.{over}
use Rattle.model.specs.Causes.{accepted, ◌and_then◌, granted, mesh_field_verdict, cells_only}
use Rattle.model.specs.Calls.{mass_in}
use Rattle.page.specs.Page.{rest_places, page_bytes, page_text}
use Rattle.page.specs.Answers.{page_verdict}
use Rattle.public_page.specs.Public.{public_text, public_page_verdict}
use Rattle.host_answer.specs.Found.{alone, Answered}

abbrev pub TotalFromC : (cells : ℕ) (volumes masses found : List ℕ) (r : ℕ) (found' : List ℕ) → Type 0
TotalFromC cells volumes masses = Answered alone (mesh_field_verdict (cells_only cells volumes) masses and_then accepted (sum cells (mass_in masses)))

pub record PageFromC (volumes masses : List ℕ) (cells page : ℕ) (bytes found : List ℕ) (r : ℕ) (bytes' found' : List ℕ) : Type 0 where
  pub answer : Answered alone (page_verdict volumes masses cells page (length bytes) and_then accepted (page_bytes (rest_places cells volumes) cells page))
      found r found'
  pub bytes_after : bytes' ≡ granted (page_verdict volumes masses cells page (length bytes))
      (over (page_text volumes masses (rest_places cells volumes) cells page) bytes) bytes

pub record PublicPageFromC (volumes masses marks : List ℕ) (cells page : ℕ) (bytes found : List ℕ) (r : ℕ) (bytes' found' : List ℕ) : Type 0 where
  pub answer : Answered alone
      (public_page_verdict volumes masses marks cells page (length bytes) and_then accepted
      (length (public_text volumes masses marks (rest_places cells volumes) cells page)))
      found r found'
  pub bytes_after : bytes'
      ≡ granted (public_page_verdict volumes masses marks cells page (length bytes))
      (over (public_text volumes masses marks (rest_places cells volumes) cells page) bytes) bytes
