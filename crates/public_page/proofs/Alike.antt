-- Two fields that agree in open cells have the same public page: from contract to contract.
use Prim.Native.Nat.{ℕ, zero, suc, ◌+◌, ◌*◌, ◌<◌}
use mathlib.Core.Path.{◌≡◌, refl, sym, ◌∙◌}
use mathlib.Core.Bool.{Bool, true, false, cond}
use mathlib.Core.List.{List, []}
use native.Mathlib.Omega.{arith}
use lib.ListN.{length}
use Rattle.text.specs.Lines.{pieces}
use Rattle.public_marks.specs.Marks.{is_open, SameInOpen}
use Rattle.public_marks.proofs.Judged.{same_tests}
use Rattle.page.specs.Page.{rest_places, page_cells, cells_on, line_of, line_if}
use Rattle.page.specs.Answers.{verdict_with}
use Rattle.page.proofs.Laws.{cell-there}
use Rattle.public_page.specs.Public.{public_text, public_page_verdict}
use Rattle.public_page.specs.Alike.{PageTellsNothing}

pieces-cong : (n : ℕ) (f g : ℕ → List ℕ) → ((i : ℕ) → i < n → f i ≡ g i) → pieces n f ≡ pieces n g
unfolding pieces
pieces-cong zero f g h = refl
pieces-cong (suc n) f g h = rw (pieces-cong n f g (λ i l. h i (omega arith)), h n (omega arith))

module _ (volumes marks : List ℕ) (cells : ℕ) (masses masses' : List ℕ) (s : SameInOpen volumes marks cells masses masses') where
  same_line : (places c : ℕ) → c < cells → line_if volumes masses (is_open marks) places c ≡ line_if volumes masses' (is_open marks) places c
  unfolding line_if line_of
  same_line places c h = go (is_open marks c) refl
    where
      go : (b : Bool) → is_open marks c ≡ b → cond b (line_of volumes masses places c) [] ≡ cond b (line_of volumes masses' places c) []
      go true e = rw (s.agree c h e)
      go false e = refl

  pub same_text : (places page : ℕ) → public_text volumes masses marks places cells page ≡ public_text volumes masses' marks places cells page
  unfolding public_text
  same_text places page =
      pieces-cong (cells_on cells page) (λ i. line_if volumes masses (is_open marks) places (page * page_cells + i))
      (λ i. line_if volumes masses' (is_open marks) places (page * page_cells + i))
      (λ i h. same_line places (page * page_cells + i) (cell-there cells page i h))

  pub same-verdict : (page room : ℕ) → public_page_verdict volumes masses marks cells page room ≡ public_page_verdict volumes masses' marks cells page room
  unfolding public_page_verdict verdict_with
  same-verdict page room = let t = same_tests s in rw (t.0, t.1)

pub nothing-told : PageTellsNothing
nothing-told volumes marks cells masses masses' s page bytes r r' after after' p p' =
    let v = same-verdict volumes marks cells masses masses' s page (length bytes) in
    let t = same_text volumes marks cells masses masses' s (rest_places cells volumes) page in
    (p.answer ∙ rw (v, t) (sym p'.answer), p.bytes_after ∙ rw (v, t) (sym p'.bytes_after))
