-- The sum of the sides is not 0, so the ratio is the first side's part of it.
use lib.Ieee.{of_bits}
use Rattle.survey_points.specs.Points.{ratio}
use Rattle.survey.proofs.ratio_of.Goals as goal

pub returns : goal.returns
unfolding of_bits ratio
returns c = rw (← c.first_side-a.ensures, ← c.second_side.ensures, c.if-total.false)
