-- Document 02, S-1: what the call that prints a page refuses, answers and leaves.
use Rattle.std.specs.Prelude.{ℕ, List, [], ◌∷◌, ◌≡◌, ltb, length, Result, Ok, Err}
use Rattle.lists.specs.Table.{over}
use Rattle.model.specs.Mesh.{ceiling}
use Rattle.model.specs.Causes.{Outcome, accepted, Verdict, fine, ◌and_then◌, in_turn, granted, long, need, cells_only, counts, mesh_tables, field_table, mesh_values, field_values}
use Rattle.model.specs.Answers.{told}
use Rattle.page.specs.Page.{rest_places, pages, page_bytes, page_text}
use Rattle.model.specs.declared.Refusal.{Refusal}

-- Causes in order: position 12 of 2 is what the page is printed into; 14 stands behind 6, and its place is the page asked for. The call is
-- lent no faces, so 4 and 5 find nothing. A further table that is lent after the bytes, S-14's marks, is judged between 2 and 3.
abbrev pub causes_with : (further : Verdict) (volumes masses : List ℕ) (cells page room : ℕ) → List Verdict
causes_with further volumes masses cells page room =
    counts (cells_only cells volumes)
    ∷ mesh_tables (cells_only cells volumes)
    ∷ field_table (cells_only cells volumes) masses
    ∷ long 12 (page_bytes (rest_places cells volumes) cells page) room
    ∷ further
    ∷ mesh_values ceiling (cells_only cells volumes)
    ∷ field_values (cells_only cells volumes) masses
    ∷ need 14 page (ltb page (pages cells))
    ∷ []

unfoldable pub verdict_with : (further : Verdict) (volumes masses : List ℕ) (cells page room : ℕ) → Verdict
verdict_with further volumes masses cells page room = in_turn (causes_with further volumes masses cells page room)

-- The growers' page is lent no further table.
abbrev pub page_verdict : (volumes masses : List ℕ) (cells page room : ℕ) → Verdict
page_verdict = verdict_with fine

-- Document 01, "What form each place needs", on answers that are enums.
abbrev pub page_said : Result ℕ Refusal → Outcome ℕ
page_said (Ok n) = accepted n
page_said (Err r) = told r

-- The answer is the page's length; the page stands over the first bytes lent. A refusal leaves all.
pub record PageIs (volumes masses : List ℕ) (cells page : ℕ) (bytes : List ℕ) (r : Result ℕ Refusal) (bytes' : List ℕ) : Type 0 where
  pub answer : page_said r ≡ (page_verdict volumes masses cells page (length bytes) and_then accepted (page_bytes (rest_places cells volumes) cells page))
  pub bytes_after : bytes' ≡ granted (page_verdict volumes masses cells page (length bytes))
      (over (page_text volumes masses (rest_places cells volumes) cells page) bytes) bytes
