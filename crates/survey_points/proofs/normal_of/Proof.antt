use mathlib.Core.Path.{refl}
use Rattle.survey_points.specs.Points.{normal}
use Rattle.survey_points.proofs.normal_of.Statement.{statement}
use Rattle.survey_points.proofs.normal_of.Tie as tie

returns : tie.Need-returns
unfolding normal
returns c = refl

pub normal_of_spec : {M : Type 1} → statement M
normal_of_spec = tie.close (tie.spec returns)
