use borrow.Author.Rules.{rules}
use Rattle.run_session.proofs.refused_mesh_line.Statement.{statement}
use Rattle.run_session.proofs.refused_mesh_line.Tie as tie

returns : tie.Need-returns
returns c = rw (← c.before.number.ensures) c.refusal-line.ensures

pub refused-mesh-line-spec : {M : Type 1} → statement M
refused-mesh-line-spec = tie.close (tie.spec (search rules) (search rules) returns)
