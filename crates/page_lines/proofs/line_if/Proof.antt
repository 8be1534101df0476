-- A line for an open cell, none for a withheld one: each branch excludes the other case.
use mathlib.Core.Path.{refl, sym, ◌∙◌}
use mathlib.Core.Bool.{true≢false}
use borrow.Author.Rules.{rules}
use Rattle.page_lines.proofs.line_if.Statement.{statement}
use Rattle.page_lines.proofs.line_if.Tie as tie

returns : tie.Need-returns-then-visible
returns c =
    let at-line = c.before.before in
    ((λ e. at-line.cell_line.ensures), λ e. absurd (true≢false (sym at-line.before.before.if-visible.true ∙ e)))

returns-2 : tie.Need-returns
returns-2 c = ((λ e. absurd (true≢false (sym e ∙ c.if-visible.false))), λ e. (refl, refl))

pub line_if_spec : {M : Type 1} → statement M
line_if_spec = tie.close (tie.spec (λ c κs. search rules) (λ c. search rules) returns returns-2)
