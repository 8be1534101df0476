use mathlib.Core.Path.{sym, ◌∙◌}
use borrow.Author.Rules.{rules}
use Rattle.board_order.proofs.Entries.{by-concentration, by-rest, by-cell}
use Rattle.board_order.proofs.comes_before.Statement.{statement}
use Rattle.board_order.proofs.comes_before.Tie as tie

returns : tie.Need-returns-then-a-b
returns c = let s = c.before.before.before.before.before in by-concentration s.args.a s.args.b c.before.before.if-a-b.true

returns-2 : tie.Need-returns-then-of_a-of_b
returns-2 c =
    let at_a = c.before.before in
    let at-q = at_a.before in
    let s = at-q.before.before.before in
    rw (at_a.across-of_a.ensures, c.before.across-of_b.ensures)
    (by-rest s.args.a s.args.b at-q.if-a-b.false (λ e. c.if-of_a-of_b.true (at_a.across-of_a.ensures ∙ e ∙ sym c.before.across-of_b.ensures)))

returns-3 : tie.Need-returns
returns-3 c =
    let at_b = c.before.before.before in
    let at_a = at_b.before in
    let at-q = at_a.before in
    let s = at-q.before.before.before in
    by-cell s.args.a s.args.b at-q.if-a-b.false (sym at_a.across-of_a.ensures ∙ c.before.before.if-of_a-of_b.false ∙ at_b.across-of_b.ensures)

pub comes_before_spec : {M : Type 1} → statement M
comes_before_spec = tie.close (tie.spec returns (search rules) (search rules) returns-2 returns-3)
