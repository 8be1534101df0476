use borrow.Author.Rules.{rules}
use Rattle.run_session.proofs.refused_field_line.Statement.{statement}
use Rattle.run_session.proofs.refused_field_line.Tie as tie

returns : tie.Need-returns
returns c = rw (← c.before.number.ensures) c.refusal_line.ensures

pub refused_field_line_spec : {M : Type 1} → statement M
refused_field_line_spec = tie.close (tie.spec (search rules) (search rules) returns)
