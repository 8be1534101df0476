use mathlib.Core.Path.{refl}
use native.Mathlib.Nat.{div-mul-le_self, lt-div-mul-add}
use native.Mathlib.Omega.{arith}
use borrow.Author.Rules.{rules}
use Rattle.board_order.specs.Order.{ranked_of}
use Rattle.board_order.proofs.ranked_of.Statement.{statement}
use Rattle.board_order.proofs.ranked_of.Tie as tie

mul-rest : tie.Need-overflow_mul-rest
mul-rest c = omega (arith, div-mul-le_self c.args.mass c.args.volume)

sub-rest : tie.Need-overflow_sub-rest
sub-rest c = div-mul-le_self c.args.mass c.args.volume

-- the rest is below the volume
cast-rest : tie.Need-overflow_cast-result
cast-rest c = omega (arith, c.requires, lt-div-mul-add {a = c.args.mass} c.requires.0)

cast-volume : tie.Need-overflow_cast-result-2
cast-volume c = omega (arith, c.requires)

returns : tie.Need-returns
unfolding ranked_of
returns c = refl

pub ranked_of_spec : {M : Type 1} → statement M
ranked_of_spec = tie.close (tie.spec (search rules) mul-rest sub-rest cast-rest cast-volume returns)
