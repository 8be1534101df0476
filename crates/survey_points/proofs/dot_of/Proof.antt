use mathlib.Core.Path.{refl}
use Rattle.survey_points.specs.Points.{dot}
use Rattle.survey_points.proofs.dot_of.Statement.{statement}
use Rattle.survey_points.proofs.dot_of.Tie as tie

returns : tie.Need-returns
unfolding dot
returns c = refl

pub dot_of_spec : {M : Type 1} → statement M
dot_of_spec = tie.close (tie.spec returns)
