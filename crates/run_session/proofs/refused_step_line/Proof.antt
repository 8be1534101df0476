use borrow.Author.Rules.{rules}
use Rattle.run_session.proofs.refused_step_line.Statement.{statement}
use Rattle.run_session.proofs.refused_step_line.Tie as tie

returns : tie.Need-returns
returns c = rw (← c.before.number.ensures) c.refused_step_line.ensures

pub refused_step_line_spec : {M : Type 1} → statement M
refused_step_line_spec = tie.close (tie.spec (search rules) (search rules) returns)
