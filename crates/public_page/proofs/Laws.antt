-- What an accepted call has passed, how long the lines of open cells are, and what the call comes to.
use Prim.Native.Nat.{ℕ, zero, suc, ◌+◌, ◌*◌, ◌≤◌, ◌<◌}
use mathlib.Core.Path.{◌≡◌, ap}
use mathlib.Core.Bool.{Bool, true, false, cond}
use mathlib.Core.List.{List, []}
use native.Mathlib.Nat.{suc-mul, add-mul, one-mul}
use native.Mathlib.Omega.{arith}
use lib.ListN.{length, get_or, length-append}
use Rattle.model.specs.Mesh.{max_cells}
use Rattle.model.specs.Causes.{accepted, fine, ◌and_then◌}
use Rattle.model.specs.Answers.{told}
use Rattle.model.specs.declared.Refusal.{Refusal}
use Rattle.model.proofs.Verdicts.{both-fine}
use Rattle.text.specs.Digits.{most_digits}
use Rattle.text.specs.Lines.{Puts, pieces}
use Rattle.text.proofs.Lines.{puts-all}
use Rattle.public_marks.specs.Marks.{is_open, marks_long, marks_good}
use Rattle.page.specs.Page.{rest_places, line_bytes, page_cells, cells_on, line_of, line_if}
use Rattle.page.specs.Answers.{verdict_with}
use Rattle.page.proofs.Laws.{page-begins, cells-end, bytes-needed, PagePassed, page-passed, few_cells, figures-fit, put-asks}
use Rattle.page.proofs.Printed.{each-length}
use Rattle.public_page.specs.Public.{public_text, public_page_verdict, PublicPageIs}
use Rattle.std.specs.Prelude.{Ok, Err}

-- WHAT IS ACCEPTED HERE is accepted as a whole page
module _ (volumes masses marks : List ℕ) (cells page room : ℕ) where
  pub passed : public_page_verdict volumes masses marks cells page room ≡ fine → PagePassed volumes masses cells page room
  unfolding public_page_verdict
  passed e = page-passed (marks_long marks cells) volumes masses cells page room
      (both-fine (verdict_with (marks_long marks cells) volumes masses cells page room) (marks_good marks cells) e).0

  module _ (e : public_page_verdict volumes masses marks cells page room ≡ fine) where
    -- the cells of the page are there
    pub begins : page * page_cells < cells
    begins = page-begins cells page (passed e).there

    pub few : cells ≤ max_cells
    few = few_cells volumes masses cells (passed e).field_fine

    pub volumes_long : cells ≤ length volumes
    volumes_long = (put-asks volumes masses cells (passed e).field_fine page (passed e).there).0.2

    -- what putting its lines asks for
    pub lines-ask : {count : ℕ} → count ≡ cells_on cells page
        → (((rest_places cells volumes) ≤ most_digits) × (page * page_cells + count ≤ length volumes) × (page * page_cells + count ≤ length masses))
        × ((c : ℕ) → c < page * page_cells + count → 1 ≤ get_or volumes c 0)
    lines-ask {count} q =
        let a = put-asks volumes masses cells (passed e).field_fine page (passed e).there in
        let end = cells-end cells page a.0.1 in
        ((omega (arith, a.0.0), omega (arith, a.0.2), omega (arith, a.0.3)), λ c h. a.1.0 c (omega arith))

-- the text is no longer than lines for all cells
pieces-most : (w n : ℕ) (piece : ℕ → List ℕ) → ((i : ℕ) → i < n → length (piece i) ≤ w) → length (pieces n piece) ≤ n * w
unfolding pieces
pieces-most w zero piece h = omega arith
pieces-most w (suc n) piece h = rw length-append (omega (arith, pieces-most w n piece (λ i l. h i (omega arith)), h n (omega arith), suc-mul n w))

either-most : (b : Bool) (w : ℕ) (xs : List ℕ) → length xs ≡ w → length (cond b xs []) ≤ w
either-most true w xs e = omega arith
either-most false w xs e = omega arith

-- WHAT THE CALL ANSWERS, refused and accepted
module _ (volumes masses marks : List ℕ) (cells page : ℕ) (bytes : List ℕ) where
  pub public-refused : {r : Refusal} → public_page_verdict volumes masses marks cells page (length bytes) ≡ told r
      → PublicPageIs volumes masses marks cells page bytes (Err r) bytes
  unfolding ◌and_then◌
  public-refused e = record { answer = rw e; bytes_after = rw e }

  text-fits : public_page_verdict volumes masses marks cells page (length bytes) ≡ fine
      → length (public_text volumes masses marks (rest_places cells volumes) cells page) ≤ length bytes
  unfolding public_text line_if
  text-fits e =
      let p = passed volumes masses marks cells page (length bytes) e in
      let fit = figures-fit volumes masses cells p.field_fine in
      omega (
        arith,
        pieces-most (line_bytes (rest_places cells volumes)) (cells_on cells page)
            (λ i. line_if volumes masses (is_open marks) (rest_places cells volumes) (page * page_cells + i))
            (λ i h. either-most (is_open marks (page * page_cells + i)) (line_bytes (rest_places cells volumes))
            (line_of volumes masses (rest_places cells volumes) (page * page_cells + i))
            (each-length (rest_places cells volumes) volumes masses cells fit page i h)),
        p.room_enough,
        bytes-needed (rest_places cells volumes) cells page p.there,
        add-mul (cells_on cells page) 1 (line_bytes (rest_places cells volumes)),
        one-mul (line_bytes (rest_places cells volumes)),
      )

  pub public-accepted : {n count : ℕ} {bytes' : List ℕ} → public_page_verdict volumes masses marks cells page (length bytes) ≡ fine → count ≡ cells_on cells page
      → Puts bytes 0 (pieces count (λ i. line_if volumes masses (is_open marks) (rest_places cells volumes) (page * page_cells + i))) n bytes'
      → PublicPageIs volumes masses marks cells page bytes (Ok n) bytes'
  unfolding ◌and_then◌ public_text
  public-accepted {n} {count} {bytes'} e q put =
      let all = puts-all bytes (rw q at put) (text-fits e) in
      record { answer = rw e (ap accepted all.0); bytes_after = rw e all.1 }
