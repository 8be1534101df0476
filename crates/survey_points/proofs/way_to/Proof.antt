use mathlib.Core.Path.{refl}
use Rattle.survey_points.specs.Points.{way}
use Rattle.survey_points.proofs.way_to.Statement.{statement}
use Rattle.survey_points.proofs.way_to.Tie as tie

returns : tie.Need-returns
unfolding way
returns c = refl

pub way_to_spec : {M : Type 1} → statement M
way_to_spec = tie.close (tie.spec returns)
