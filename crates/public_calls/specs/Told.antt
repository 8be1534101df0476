-- Document 02, S-14, of the public page and the public board as C asks for them: what they tell of withheld cells, which is nothing. Two calls as
-- they were made, on fields that agree in open cells, with all else the same: numbers, refusals included, bytes and what is found are equal.
use Rattle.std.specs.Prelude.{ℕ, ◌<◌, ◌≡◌, true, List}
use Rattle.model.specs.Mesh.{run_cells}
use Rattle.model.specs.Causes.{fine}
use Rattle.model.specs.Calls.{mass_in}
use Rattle.record_heads.specs.Heads.{width_in}
use Rattle.record_reading.specs.Reading.{mesh_in}
use Rattle.taking.specs.Taking.{field_judged}
use Rattle.public_marks.specs.Marks.{is_open, SameInOpen}
use Rattle.host_answer.specs.Found.{Answered}
use Rattle.host_field_promises.specs.Field.{PublicPageFromC}
use Rattle.host_field_promises.specs.Board.{shown_numbers, PublicBoardFromC}
use Rattle.host_tested.specs.Tested.{field_in}
use Rattle.host_record_promises.specs.Cells.{PublicPromise}
use Rattle.host_record_promises.specs.Boards.{public_board_found}

-- ON TABLES
module _ (volumes marks : List ℕ) (cells : ℕ) (masses masses' : List ℕ) where
  abbrev pub TablePageTold : Type 0
  TablePageTold = SameInOpen volumes marks cells masses masses' → (page : ℕ) (bytes found : List ℕ) (r r' : ℕ) (after after' told told' : List ℕ)
      → PublicPageFromC volumes masses marks cells page bytes found r after told → PublicPageFromC volumes masses' marks cells page bytes found r' after' told'
      → (r ≡ r') × (after ≡ after') × (told ≡ told')

  abbrev pub TableBoardTold : Type 0
  TableBoardTold = SameInOpen volumes marks cells masses masses' → (found : List ℕ) (r r' : ℕ) (told told' : List ℕ)
      → PublicBoardFromC cells volumes masses marks found r told → PublicBoardFromC cells volumes masses' marks found r' told'
      → (r ≡ r') × (told ≡ told')

-- ON RECORDS: two field records that are accepted on one mesh record, which need not be, and that agree in open cells
pub record RecordsAgree (mesh marks field field' : List ℕ) : Type 0 where
  pub one_accepted : field_judged (width_in mesh) (mesh_in mesh).cells (mesh_in mesh).volumes field run_cells ≡ fine
  pub other_accepted : field_judged (width_in mesh) (mesh_in mesh).cells (mesh_in mesh).volumes field' run_cells ≡ fine
  pub agree : (c : ℕ) → c < (mesh_in mesh).cells → is_open marks c ≡ true → mass_in (field_in mesh field) c ≡ mass_in (field_in mesh field') c

module _ (mesh marks field field' : List ℕ) where
  abbrev pub RecordPageTold : Type 0
  RecordPageTold = RecordsAgree mesh marks field field' → (page : ℕ) (bytes found : List ℕ) (r r' : ℕ) (after after' told told' : List ℕ)
      → PublicPromise mesh field marks page bytes found r after told → PublicPromise mesh field' marks page bytes found r' after' told'
      → (r ≡ r') × (after ≡ after') × (told ≡ told')

  abbrev pub RecordBoardTold : Type 0
  RecordBoardTold = RecordsAgree mesh marks field field' → (found : List ℕ) (r r' : ℕ) (told told' : List ℕ)
      → Answered shown_numbers (public_board_found mesh field marks) found r told → Answered shown_numbers (public_board_found mesh field' marks) found r' told'
      → (r ≡ r') × (told ≡ told')

-- all four
pub record NothingToldToC : Type 0 where
  pub table_page : (volumes marks : List ℕ) (cells : ℕ) (masses masses' : List ℕ) → TablePageTold volumes marks cells masses masses'
  pub table_board : (volumes marks : List ℕ) (cells : ℕ) (masses masses' : List ℕ) → TableBoardTold volumes marks cells masses masses'
  pub record_page : (mesh marks field field' : List ℕ) → RecordPageTold mesh marks field field'
  pub record_board : (mesh marks field field' : List ℕ) → RecordBoardTold mesh marks field field'
