-- The lines of the cells, then the mass of the same cells.
use mathlib.Core.Path.{◌∙◌}
use native.Mathlib.Omega.{arith}
use borrow.Author.Rules.{rules}
use Rattle.text.proofs.Lines.{both}
use Rattle.public_marks.specs.Marks.{is_open}
use Rattle.page.specs.Page.{line_if, mass_line, page_text}
use Rattle.page.proofs.Laws.{cells-end, part-asks, part_gives}
use Rattle.page.proofs.put.Statement.{statement}
use Rattle.page.proofs.put.Tie as tie

lines-requires : tie.Need-lines-at-requires
lines-requires c κs =
    let at_count = c.before in
    let start = at_count.before.before.before in
    let count = at_count.cells_on-count.ensures in
    let end = cells-end start.args.cells start.args.page (omega arith) in
    ((omega arith, omega arith, omega arith), λ i h. start.requires.1.0 i (omega arith))

sum-of-requires : tie.Need-sum_of-mass-requires
sum-of-requires c κs =
    let at_count = c.before.before.before.before.before in
    let start = at_count.before.before.before in
    part-asks start.args.volumes.now start.args.masses.now start.args.cells start.args.page at_count.cells_on-count.ensures
    (omega arith) (omega arith) start.requires.1.1

returns : tie.Need-returns
unfolding page_text line_if mass_line is_open
returns c =
    let at-mass = c.before.before in
    let at_sum = at-mass.before.before.before in
    let at-lines = at_sum.before.before.before.before in
    let at_count = at-lines.before.before in
    let start = at_count.before.before.before.args in
    let count = at_count.cells_on-count.ensures in
    let mass = at_sum.sum_of-mass.ensures ∙ part_gives start.volumes.now start.masses.now start.cells start.page count in
    both _ (rw count at at-lines.lines-at.ensures) (rw (at-mass.before.mass_places.ensures, mass) at at-mass.column.ensures)

pub put_spec : {M : Type 1} → statement M
put_spec =
    tie.close
    (tie.spec (λ c. omega arith) (λ c κs. search rules) (λ c. search rules) lines-requires (λ c. omega arith) (λ c. omega arith) (λ c. omega arith)
    (λ c. omega arith) sum-of-requires
    (λ c κs. search rules) (λ c κs. search rules) (λ c. search rules) returns)
