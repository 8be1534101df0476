use mathlib.Core.Path.{refl}
use lib.Ieee.{of_bits}
use Rattle.survey_points.specs.Points.{middle_of}
use Rattle.survey_points.proofs.middle_of.Statement.{statement}
use Rattle.survey_points.proofs.middle_of.Tie as tie

returns : tie.Need-returns
unfolding middle_of of_bits
returns c = refl

pub middle_of_spec : {M : Type 1} → statement M
middle_of_spec = tie.close (tie.spec returns)
