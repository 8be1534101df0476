use Rattle.survey_points.specs.Points.{first_side}
use borrow.Author.Rules.{rules}
use Rattle.survey_points.proofs.first_side.Statement.{statement}
use Rattle.survey_points.proofs.first_side.Tie as tie

returns : tie.Need-returns
unfolding first_side
returns c =
    let at-way = c.before.before in
    let at-normal = at-way.before in
    rw (c.size_of.ensures, c.before.dot_of.ensures, at-way.way_to.ensures, at-normal.before.normal_of.ensures, at-normal.before.before.before.before.middle_of-m.ensures)

pub first_side_spec : {M : Type 1} → statement M
first_side_spec = tie.close (tie.spec (search rules) (search rules) (search rules) (search rules) (search rules) returns)
