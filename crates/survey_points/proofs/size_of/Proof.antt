use lib.Ieee.{of_bits}
use borrow.Author.Rules.{rules}
use Rattle.survey_points.proofs.Floats.{size_below, size_none, size_above}
use Rattle.survey_points.proofs.size_of.Statement.{statement}
use Rattle.survey_points.proofs.size_of.Tie as tie

returns : tie.Need-returns-then-v
unfolding of_bits
returns c = size_below c.before.args.v c.if-v.true

returns-2 : tie.Need-returns-then-v-2
unfolding of_bits
returns-2 c = size_none c.before.before.args.v (search rules) c.if-v-2.true

returns-3 : tie.Need-returns
unfolding of_bits
returns-3 c = size_above c.before.before.args.v c.before.if-v.false c.if-v-2.false

pub size_of_spec : {M : Type 1} → statement M
size_of_spec = tie.close (tie.spec returns returns-2 returns-3)
