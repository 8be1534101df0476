-- A record as long as its head lets the head's fields be read; the tests after that are in the order of the causes.
use Rattle.std.proofs.Common.{sym, [], ◌∷◌, arith}
use Rattle.std.proofs.lemmas.Result.{err_from_is_err_and}
use Rattle.model.proofs.Verdicts.{past, refused-at, fine-all}
use Rattle.record_bits.specs.Layout.{bytes_for}
use Rattle.record_heads.specs.Heads.{field_head_verdict}
use Rattle.record_heads.proofs.HeadLaws.{head-there}
use Rattle.record_heads.proofs.field.Goals as goal

pub returns-in_err-need : goal.returns-in_err-need
unfolding field_head_verdict bytes_for
returns-in_err-need c =
    let p = err_from_is_err_and c.from_residual.result c.from_residual.ensures.1 in
    rw (p.1, p.2) (sym (refused-at [] (_ ∷ _ ∷ _ ∷ []) tt (sym c.in_err-need.ensures)))

pub kind-requires : goal.kind-requires
kind-requires c = head-there 2 (omega arith) c.in_ok-need.ensures

pub returns-in_err-need-2 : goal.returns-in_err-need-2
unfolding field_head_verdict bytes_for
returns-in_err-need-2 c =
    let p = err_from_is_err_and c.from_residual-in_err-need-2.result c.from_residual-in_err-need-2.ensures.1 in
    rw (p.1, p.2)
    (sym (refused-at (_ ∷ []) (_ ∷ _ ∷ []) (sym c.in_ok-need.ensures, tt)
    (sym (rw (c.kind.ensures, c.of_width-expected_kind.ensures) at c.in_err-need-2.ensures))))

pub cells-requires : goal.cells-requires
cells-requires c = head-there 2 (omega arith) c.in_ok-need.ensures

pub returns-in_err-need-3 : goal.returns-in_err-need-3
unfolding field_head_verdict bytes_for
returns-in_err-need-3 c =
    let p = err_from_is_err_and c.from_residual-in_err-need-3.result c.from_residual-in_err-need-3.ensures.1 in
    rw (p.1, p.2)
    (sym (refused-at (_ ∷ _ ∷ []) (_ ∷ [])
    (sym c.in_ok-need.ensures, (sym (rw (c.kind.ensures, c.of_width-expected_kind.ensures) at c.in_ok-need-2.ensures), tt))
    (sym (rw c.cells.ensures at c.in_err-need-3.ensures))))

pub returns : goal.returns
unfolding field_head_verdict bytes_for
returns c =
    rw (c.need-4.ensures, c.between-few.ensures)
    (sym (past _ (fine-all (_ ∷ _ ∷ _ ∷ []) (
      sym c.in_ok-need.ensures,
      (
        sym (rw (c.kind.ensures, c.of_width-expected_kind.ensures) at c.in_ok-need-2.ensures),
        (sym (rw c.cells.ensures at c.in_ok-need-3.ensures), tt),
      ),
    ))))
