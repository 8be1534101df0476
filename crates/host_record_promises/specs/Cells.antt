-- For a host in C, on a mesh record and a field record: document 01, "The board and the run", the total of a field; document 02, S-1 and S-14, a page of the
-- binder. The records are tested first, as the step on records tests them; then come the causes of the call on their tables.
use Rattle.std.specs.Prelude.{ℕ, ◌≡◌, List, length, Result}
use Rattle.lists.specs.Table.{over}
use Rattle.model.specs.Causes.{Outcome, accepted, Verdict, ◌and_then◌, granted}
use Rattle.record_reading.specs.Reading.{mesh_in}
use Rattle.page.specs.Page.{rest_places, page_bytes, page_text}
use Rattle.page.specs.Answers.{page_said, page_verdict}
use Rattle.public_page.specs.Public.{public_text, public_page_verdict}
use Rattle.host_answer.specs.Found.{alone, Answered}
use Rattle.host_tested.specs.Tested.{field_tested, field_in, total_held}
use Rattle.model.specs.declared.Refusal.{Refusal}

-- a page of n bytes that is printed, or refused by v
pub record Printing (v : Verdict) (n : ℕ) (text bytes : List ℕ) (r : Result ℕ Refusal) (bytes' : List ℕ) : Type 0 where
  pub answer : page_said r ≡ (v and_then accepted n)
  pub bytes_after : bytes' ≡ granted v (over text bytes) bytes

-- its answer as a number, with the length found
pub record PrintedFromC (v : Verdict) (n : ℕ) (text bytes found : List ℕ) (r : ℕ) (bytes' found' : List ℕ) : Type 0 where
  pub answer : Answered alone (v and_then accepted n) found r found'
  pub bytes_after : bytes' ≡ granted v (over text bytes) bytes

module _ (mesh field : List ℕ) where
  -- the total: no cause but those of the records
  abbrev pub total_found : Outcome ℕ
  total_found = field_tested mesh field and_then accepted (total_held mesh field)

  -- S-1
  abbrev pub places_in : ℕ
  places_in = rest_places (mesh_in mesh).cells (mesh_in mesh).volumes

  abbrev pub page_found : (page room : ℕ) → Verdict
  page_found page room = field_tested mesh field and_then page_verdict (mesh_in mesh).volumes (field_in mesh field) (mesh_in mesh).cells page room

  abbrev pub page_length : ℕ → ℕ
  page_length page = page_bytes places_in (mesh_in mesh).cells page

  abbrev pub page_in : ℕ → List ℕ
  page_in page = page_text (mesh_in mesh).volumes (field_in mesh field) places_in (mesh_in mesh).cells page

  abbrev pub PageTaking : (page : ℕ) → List ℕ → (Result ℕ Refusal) → List ℕ → Type 0
  PageTaking page bytes = Printing (page_found page (length bytes)) (page_length page) (page_in page) bytes

  abbrev pub PagePromise : (page : ℕ) → List ℕ → List ℕ → ℕ → List ℕ → List ℕ → Type 0
  PagePromise page bytes = PrintedFromC (page_found page (length bytes)) (page_length page) (page_in page) bytes

  -- S-14
  module _ (marks : List ℕ) where
    abbrev pub public_page_found : (page room : ℕ) → Verdict
    public_page_found page room = field_tested mesh field
        and_then public_page_verdict (mesh_in mesh).volumes (field_in mesh field) marks (mesh_in mesh).cells page room

    abbrev pub public_in : ℕ → List ℕ
    public_in page = public_text (mesh_in mesh).volumes (field_in mesh field) marks places_in (mesh_in mesh).cells page

    abbrev pub PublicTaking : (page : ℕ) → List ℕ → (Result ℕ Refusal) → List ℕ → Type 0
    PublicTaking page bytes = Printing (public_page_found page (length bytes)) (length (public_in page)) (public_in page) bytes

    abbrev pub PublicPromise : (page : ℕ) → List ℕ → List ℕ → ℕ → List ℕ → List ℕ → Type 0
    PublicPromise page bytes = PrintedFromC (public_page_found page (length bytes)) (length (public_in page)) (public_in page) bytes
