use lib.Ieee.{of_bits, neg}
use Rattle.survey_points.proofs.Floats.{within, beyond}
use Rattle.survey_points.proofs.is_allowed.Statement.{statement}
use Rattle.survey_points.proofs.is_allowed.Tie as tie

returns : tie.Need-returns-then-v
unfolding of_bits neg
returns c = within c.before.args.v c.if-v.true

returns-2 : tie.Need-returns
unfolding of_bits neg
returns-2 c = beyond c.before.args.v c.if-v.false

pub is_allowed_spec : {M : Type 1} → statement M
is_allowed_spec = tie.close (tie.spec returns returns-2)
