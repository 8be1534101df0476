-- Pages of records: past the records' causes it is the page's call that finds and prints; and its places are below 2 ^ 32, the page asked for too.
use Prim.Native.Nat.{ℕ, ◌^◌, ◌<◌}
use mathlib.Core.Path.{◌≡◌, sym}
use mathlib.Core.List.{List}
use native.Mathlib.Omega.{arith}
use lib.ListN.{length, take}
use Rattle.model.specs.Mesh.{Mesh, ceiling}
use Rattle.model.specs.Causes.{accepted, Verdict, fine, ◌and_then◌, cells_only}
use Rattle.model.specs.Answers.{told}
use Rattle.model.specs.declared.Refusal.{Refusal}
use Rattle.model.proofs.Verdicts.{past, out}
use Rattle.record_reading.specs.Reading.{mesh_in}
use Rattle.page.specs.Answers.{page_said, verdict_with, PageIs}
use Rattle.public_page.specs.Public.{public_page_verdict, PublicPageIs}
use Rattle.host_answer.specs.Number.{number_of}
use Rattle.host_answer.specs.Found.{alone, Answered}
use Rattle.host_answer.proofs.Small.{Small, small-and, small-need, small-each, small-fine, small-giving, small-number}
use Rattle.host_answer.proofs.Answers.{answered-as}
use Rattle.host_answer.proofs.Tables.{Few, counts-small, mesh-tables-small, mesh-values-small, field-table-small, field-values-small}
use Rattle.host_tested.specs.Tested.{field_in}
use Rattle.host_taking.specs.Taken.{CellsTaking}
use Rattle.host_taking.specs.declared.FieldCounts.{FieldCounts}
use Rattle.host_taking.proofs.Held.{tested-fine, cells-as}
use Rattle.host_tested.proofs.Small.{few, field-tested-small}
use Rattle.host_record_promises.specs.Cells.{Printing, PrintedFromC, page_found, page_length, public_page_found, public_in, PageTaking, PublicTaking}
use Rattle.std.specs.Prelude.{Result, Ok, Err}

pub printing-refused : {v : Verdict} (n : ℕ) (text bytes : List ℕ) (r : Refusal) → v ≡ told r → Printing v n text bytes (Err r) bytes
printing-refused n text bytes r e = record { answer = sym (out _ e); bytes_after = rw e }

printing-past : {u v : Verdict} {n : ℕ} {text bytes : List ℕ} {r : Result ℕ Refusal} {bytes' : List ℕ} → u ≡ fine → Printing v n text bytes r bytes' → Printing
    (u and_then v) n text bytes r bytes'
printing-past {v = v} e p = rw (past v e) p

-- on tables that have been taken
module _ (mesh field : List ℕ) (page : ℕ) (bytes : List ℕ) {a : Result FieldCounts Refusal} {volumes masses : List ℕ} (t : CellsTaking mesh field a volumes masses) {n :
    FieldCounts} (d : a ≡ Ok n)
    {r : Result ℕ Refusal} {bytes' : List ℕ} where
  pub page-made : PageIs (take n.cells volumes) (take n.cells masses) n.cells page bytes r bytes' → PageTaking mesh field page bytes r bytes'
  page-made q =
      let p = cells-as mesh field t d (λ m vs ms. PageIs vs ms m page bytes r bytes') q in
      printing-past (tested-fine mesh field t.answer d) (record { answer = p.answer; bytes_after = p.bytes_after })

  pub public-made : (marks : List ℕ) → PublicPageIs (take n.cells volumes) (take n.cells masses) marks n.cells page bytes r bytes' → PublicTaking
      mesh field marks page bytes r bytes'
  public-made marks q =
      let p = cells-as mesh field t d (λ m vs ms. PublicPageIs vs ms marks m page bytes r bytes') q in
      printing-past (tested-fine mesh field t.answer d) (record { answer = p.answer; bytes_after = p.bytes_after })

-- the answer as a number
pub printed-from : {v : Verdict} {n : ℕ} {text bytes : List ℕ} {a : Result ℕ Refusal} {bytes' : List ℕ} → Printing v n text bytes a bytes' → {found : List ℕ} {r
    : ℕ} {found' : List ℕ}
    → Answered alone (page_said a) found r found' → PrintedFromC v n text bytes found r bytes' found'
printed-from p {found = found} a = record { answer = answered-as alone found p.answer a; bytes_after = p.bytes_after }

-- it fits
module _ (mesh field : List ℕ) {further : Verdict} (s : Small further) (page room : ℕ) (h : page < 2 ^ 32) where
  abbrev cells_in : Mesh
  cells_in = cells_only (mesh_in mesh).cells (mesh_in mesh).volumes

  with-small : Small (verdict_with further (mesh_in mesh).volumes (field_in mesh field) (mesh_in mesh).cells page room)
  unfolding verdict_with
  with-small =
      let f : Few cells_in = ((few mesh).0, omega arith) in
      small-and (small-and (small-and (small-and (small-and (small-and (small-and
      (counts-small cells_in)
      (mesh-tables-small cells_in))
      (field-table-small cells_in f (field_in mesh field)))
      (small-need 2 12 _ (omega arith)))
      s)
      (mesh-values-small cells_in f ceiling))
      (field-values-small cells_in f (field_in mesh field)))
      (small-need 14 page _ (omega arith))

module _ (mesh field : List ℕ) (page : ℕ) (h : page < 2 ^ 32) where
  pub page-fits : (room : ℕ) → number_of (page_found mesh field page room and_then accepted (page_length mesh field page)) < 2 ^ 64
  page-fits room = small-number _ (small-giving _ (small-and (field-tested-small mesh field) (with-small mesh field (small-fine tt) page room h)))

  pub public-fits : (marks : List ℕ) (room : ℕ) → number_of (public_page_found mesh field marks page room and_then accepted (length (public_in mesh field marks
      page))) < 2 ^ 64
  unfolding public_page_verdict
  public-fits marks room = small-number _ (small-giving _ (small-and (field-tested-small mesh field)
      (small-and (with-small mesh field (small-need 2 19 _ (omega arith)) page room h) (small-each 27 _ _ (omega (arith, (few mesh).0))))))
