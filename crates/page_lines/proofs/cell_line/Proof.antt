-- Three columns, put one after the other, are the line.
use native.Mathlib.Nat.{div-mul-le_self}
use native.Mathlib.Omega.{arith}
use borrow.Author.Rules.{rules}
use Rattle.text.proofs.Lines.{both}
use Rattle.page_lines.specs.Lines.{cell_line}
use Rattle.page_lines.proofs.cell_line.Statement.{statement}
use Rattle.page_lines.proofs.cell_line.Tie as tie

mul-rest : tie.Need-overflow_mul-rest
mul-rest c = omega (arith, div-mul-le_self c.before.args.mass c.before.args.volume)

sub-rest : tie.Need-overflow_sub-rest
sub-rest c = div-mul-le_self c.before.args.mass c.before.args.volume

returns : tie.Need-returns
unfolding cell_line
returns c =
    let at_rest = c.before.before in
    let at-q = at_rest.before.before.before.before in
    let at-cell = at-q.before.before.before.before in
    both _ at-cell.column-a.ensures (both _ at-q.column-b.ensures at_rest.column.ensures)

pub cell_line_spec : {M : Type 1} → statement M
cell_line_spec =
    tie.close
    (tie.spec (search rules) mul-rest sub-rest (λ c κs. search rules) (λ c κs. search rules) (λ c κs. search rules) (λ c. search rules) returns)
