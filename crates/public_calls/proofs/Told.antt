-- The public calls from C rest on what the public page and board rest on, so what two fields that agree in open cells give is the same. On
-- records the tests of mesh and field come before, and they find the same of both.
use Prim.Native.Nat.{ℕ}
use mathlib.Core.Path.{◌≡◌, sym, ap, ◌∙◌}
use mathlib.Core.List.{List, [], ◌∷◌}
use lib.ListN.{length}
use Rattle.model.specs.Mesh.{run_cells, ceiling}
use Rattle.model.specs.Causes.{Outcome, fine, cells_only, counts, mesh_tables, mesh_values, field_table, field_values, field_verdict, mesh_field_verdict}
use Rattle.model.proofs.Verdicts.{both-fine, past, all-fine}
use Rattle.record_heads.specs.Heads.{width_in}
use Rattle.record_reading.specs.Reading.{mesh_in}
use Rattle.taking.specs.Taking.{field_judged}
use Rattle.public_marks.specs.Marks.{SameInOpen}
use Rattle.page.specs.Page.{rest_places}
use Rattle.public_page.proofs.Alike.{same_text, same-verdict}
use Rattle.public_board.proofs.Alike.{same_entries, same-verdict as same-board-verdict}
use Rattle.host_answer.specs.Number.{number_of}
use Rattle.host_answer.specs.Found.{found_by, Answered}
use Rattle.host_tested.specs.Tested.{field_tested, field_in}
use Rattle.public_calls.specs.Told.{TablePageTold, TableBoardTold, RecordsAgree, RecordPageTold, RecordBoardTold, NothingToldToC}

-- two calls that come to the same answer the same
answers-same : {A : Type 0} {numbers : A → List ℕ} {o o' : Outcome A} {found : List ℕ} {r r' : ℕ} {told told' : List ℕ} → o ≡ o'
    → Answered numbers o found r told → Answered numbers o' found r' told' → (r ≡ r') × (told ≡ told')
answers-same {numbers = numbers} {found = found} e a b = (
  a.number ∙ ap number_of e ∙ sym b.number,
  a.found-after ∙ ap (λ o. found_by numbers o found) e ∙ sym b.found-after,
)

module _ (volumes marks : List ℕ) (cells : ℕ) (masses masses' : List ℕ) where
  table_page : TablePageTold volumes marks cells masses masses'
  table_page s page bytes found r r' after after' told told' p q =
      let v = same-verdict volumes marks cells masses masses' s page (length bytes) in
      let t = same_text volumes marks cells masses masses' s (rest_places cells volumes) page in
      let a = answers-same (rw (v, t)) p.answer q.answer in
      (a.0, p.bytes_after ∙ rw (v, t) (sym q.bytes_after), a.1)

  table_board : TableBoardTold volumes marks cells masses masses'
  table_board s found r r' told told' p q =
      answers-same (rw (same-board-verdict volumes marks cells masses masses' s, same_entries volumes marks cells masses masses' s)) p q

module _ (mesh marks field field' : List ℕ) (s : RecordsAgree mesh marks field field') where
  -- what an accepted field record has passed
  held-accepted : (bs : List ℕ) → field_judged (width_in mesh) (mesh_in mesh).cells (mesh_in mesh).volumes bs run_cells ≡ fine
      → field_verdict (cells_only (mesh_in mesh).cells (mesh_in mesh).volumes) (field_in mesh bs) ≡ fine
  unfolding field_judged mesh_field_verdict field_verdict
  held-accepted bs e =
      let M = cells_only (mesh_in mesh).cells (mesh_in mesh).volumes in
      let a = all-fine (counts M ∷ mesh_tables M ∷ field_table M (field_in mesh bs) ∷ mesh_values ceiling M ∷ field_values M (field_in mesh bs) ∷ [])
      (both-fine _ _ e).1 in
      past _ a.1.1.0 ∙ a.1.1.1.1.0

  cells_agree : SameInOpen (mesh_in mesh).volumes marks (mesh_in mesh).cells (field_in mesh field) (field_in mesh field')
  cells_agree = record {
    one_accepted = held-accepted field s.one_accepted;
    other_accepted = held-accepted field' s.other_accepted;
    agree = s.agree;
  }

  same-tested : field_tested mesh field ≡ field_tested mesh field'
  same-tested = rw (s.one_accepted, s.other_accepted)

record_page : (mesh marks field field' : List ℕ) → RecordPageTold mesh marks field field'
record_page mesh marks field field' s page bytes found r r' after after' told told' p q =
    let c = cells_agree mesh marks field field' s in
    let u = same-tested mesh marks field field' s in
    let v = same-verdict (mesh_in mesh).volumes marks (mesh_in mesh).cells (field_in mesh field) (field_in mesh field') c page (length bytes) in
    let t = same_text (mesh_in mesh).volumes marks (mesh_in mesh).cells (field_in mesh field) (field_in mesh field') c
    (rest_places (mesh_in mesh).cells (mesh_in mesh).volumes) page in
    let a = answers-same (rw (u, v, t)) p.answer q.answer in
    (a.0, p.bytes_after ∙ rw (u, v, t) (sym q.bytes_after), a.1)

record_board : (mesh marks field field' : List ℕ) → RecordBoardTold mesh marks field field'
record_board mesh marks field field' s found r r' told told' p q =
    let c = cells_agree mesh marks field field' s in
    answers-same (rw (
      same-tested mesh marks field field' s,
      same-board-verdict (mesh_in mesh).volumes marks (mesh_in mesh).cells (field_in mesh field) (field_in mesh field') c,
      same_entries (mesh_in mesh).volumes marks (mesh_in mesh).cells (field_in mesh field) (field_in mesh field') c,
    )) p q

pub nothing-told-to-c : NothingToldToC
nothing-told-to-c = record { table_page = table_page; table_board = table_board; record_page = record_page; record_board = record_board }
