use Prim.Native.Nat.{◌^◌}
use native.Mathlib.Omega.{arith}
use lib.Dec.{le→leb}
use lib.Ieee.{of_bits, in_float}
use Rattle.survey.proofs.Floats.{part-not-above}
use Rattle.survey.proofs.is_not_above.Statement.{statement}
use Rattle.survey.proofs.is_not_above.Tie as tie

int-to-float-result : tie.Need-int_to_float-result
unfolding in_float
int-to-float-result c = le→leb c.before.args.k (2 ^ 53) (omega (arith, c.before.requires.1))

returns : tie.Need-returns
unfolding of_bits
returns c = part-not-above _ _ c.before.requires.0 c.before.requires.1

pub is_not_above_spec : {M : Type 1} → statement M
is_not_above_spec = tie.close (tie.spec int-to-float-result returns)
