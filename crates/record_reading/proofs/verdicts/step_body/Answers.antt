-- Length, three tables and zero bits in the order of the causes; the zero bits are looked at only in a record of the right length.
use Rattle.std.proofs.Common.{◌≡◌, sym, ap, ◌∙◌, [], ◌∷◌, arith}
use Rattle.std.proofs.lemmas.Result.{err_from_is_err_and}
use Rattle.model.proofs.Verdicts.{past, refused-at, fine-all}
use Rattle.record_layouts.specs.Layouts.{value_bits, kind_number, step_bits, step_length}
use Rattle.record_layouts.proofs.Layouts.{step-value, value-most, step-some, step-most}
use Rattle.record_heads.specs.Heads.{kind_in}
use Rattle.record_bits.proofs.Layouts.{bytes-hold, bytes_most}
use Rattle.record_reading.specs.Reading.{step_body_verdict, step_bit_good}
use Rattle.record_reading.proofs.ReadLaws.{step-tables-say}
use Rattle.record_reading.proofs.verdicts.step_body.Goals as goal

pub bytes_for-requires : goal.bytes_for-requires
bytes_for-requires c =
    omega (arith, c.step_bits-end.ensures, step-most (kind_number c.args.width c.args.kind) c.args.cells c.args.faces c.args.seconds.now c.requires.1 c.requires.2)

pub returns-in_err-need : goal.returns-in_err-need
unfolding step_body_verdict step_length
returns-in_err-need c =
    let p = err_from_is_err_and c.from_residual.result c.from_residual.ensures.1 in
    rw (p.1, p.2) (sym (refused-at [] (_ ∷ _ ∷ _ ∷ _ ∷ []) tt (sym (rw (c.bytes_for.ensures, c.step_bits-end.ensures, c.requires.0) at c.in_err-need.ensures))))

pub returns-in_err-long : goal.returns-in_err-long
unfolding step_body_verdict step_length
returns-in_err-long c =
    let p = err_from_is_err_and c.from_residual-in_err-long.result c.from_residual-in_err-long.ensures.1 in
    rw (p.1, p.2) (sym (refused-at (_ ∷ []) (_ ∷ _ ∷ _ ∷ []) ((sym (rw (c.bytes_for.ensures, c.step_bits-end.ensures, c.requires.0) at c.in_ok-need.ensures)), tt) (sym c.in_err-long.ensures)))

pub returns-in_err-long-2 : goal.returns-in_err-long-2
unfolding step_body_verdict step_length
returns-in_err-long-2 c =
    let p = err_from_is_err_and c.from_residual-in_err-long-2.result c.from_residual-in_err-long-2.ensures.1 in
    rw (p.1, p.2) (sym (refused-at (_ ∷ _ ∷ []) (_ ∷ _ ∷ []) ((sym (rw (c.bytes_for.ensures, c.step_bits-end.ensures, c.requires.0) at c.in_ok-need.ensures)), ((sym c.in_ok-long.ensures), tt)) (sym c.in_err-long-2.ensures)))

pub returns-in_err-long-3 : goal.returns-in_err-long-3
unfolding step_body_verdict step_length
returns-in_err-long-3 c =
    let p = err_from_is_err_and c.from_residual-in_err-long-3.result c.from_residual-in_err-long-3.ensures.1 in
    rw (p.1, p.2) (sym (refused-at (_ ∷ _ ∷ _ ∷ []) (_ ∷ []) ((sym (rw (c.bytes_for.ensures, c.step_bits-end.ensures, c.requires.0) at c.in_ok-need.ensures)), ((sym c.in_ok-long.ensures), ((sym c.in_ok-long-2.ensures), tt))) (sym c.in_err-long-3.ensures)))

pub step-requires : goal.step-requires
unfolding step_length
step-requires c =
    let k = kind_in c.args.bytes.now in
    let bits = step_bits k c.args.cells c.args.faces c.args.seconds.now in
    let t = step-tables-say c.args.cells c.args.faces c.args.seconds.now c.args.bytes.now _ _ _ (fine-all (_ ∷ _ ∷ _ ∷ _ ∷ []) ((sym (rw (c.bytes_for.ensures, c.step_bits-end.ensures, c.requires.0) at c.in_ok-need.ensures)), ((sym c.in_ok-long.ensures), ((sym c.in_ok-long-2.ensures), ((sym c.in_ok-long-3.ensures), tt))))) in
    let e : c.value_width.result ≡ value_bits k = c.value_width.ensures ∙ sym (step-value c.args.width c.args.kind) ∙ ap value_bits c.requires.0 in
    let end : c.step_bits-end.result ≡ bits = rw c.requires.0 at c.step_bits-end.ensures in
    rw e (omega (
      arith,
      end,
      t.same_length,
      bytes-hold bits,
      bytes_most bits,
      step-most k c.args.cells c.args.faces c.args.seconds.now c.requires.1 c.requires.2,
      step-some k c.args.cells c.args.faces c.args.seconds.now,
      value-most k,
    ))

pub returns : goal.returns
unfolding step_body_verdict step_length step_bit_good
returns c =
    let k = kind_in c.args.bytes.now in
    let e : c.value_width.result ≡ value_bits k = c.value_width.ensures ∙ sym (step-value c.args.width c.args.kind) ∙ ap value_bits c.requires.0 in
    let end : c.step_bits-end.result ≡ step_bits k c.args.cells c.args.faces c.args.seconds.now = rw c.requires.0 at c.step_bits-end.ensures in
    rw (c.step.ensures, end, e) (sym (past _ (fine-all (_ ∷ _ ∷ _ ∷ _ ∷ []) ((sym (rw (c.bytes_for.ensures, c.step_bits-end.ensures, c.requires.0) at c.in_ok-need.ensures)), ((sym c.in_ok-long.ensures), ((sym c.in_ok-long-2.ensures), ((sym c.in_ok-long-3.ensures), tt)))))))
