use borrow.Author.Rules.{rules}
use Rattle.run_session.proofs.start_line.Statement.{statement}
use Rattle.run_session.proofs.start_line.Tie as tie

returns : tie.Need-returns
returns c = c.step_line.ensures

pub start_line_spec : {M : Type 1} → statement M
start_line_spec = tie.close (tie.spec (search rules) returns)
