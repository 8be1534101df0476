-- The kit's digits are the definition's, the spaces are those that they leave, and pieces put one after the other are one.
use Rattle.std.proofs.Common.{◌∙◌, arith}
use Rattle.text.specs.Digits.{most_digits}
use Rattle.text.specs.Lines.{column, word, space}
use Rattle.text.proofs.Digits.{fewest-digits, count-digits}
use Rattle.text.proofs.Columns.{fewer-blanks}
use Rattle.text.proofs.Lines.{both}
use Rattle.text.proofs.column.Goals as goal

pub returns : goal.returns
unfolding column word
returns c =
    let decimal = c.decimal-count in
    let start = c.args in
    let count = count-digits most_digits decimal.result start.n (omega arith) (omega arith) decimal.ensures.len in
    let told = decimal.ensures.digits ∙ fewest-digits most_digits decimal.result start.n (omega arith) (omega arith) decimal.ensures.len in
    let blanks = fewer-blanks c.left.result most_digits space (omega arith) in
    both start.lent.now (rw (blanks, c.left.ensures, ← count) at c.append-start.ensures)
    (both _ (rw told at c.append-end.ensures) c.append.ensures)
