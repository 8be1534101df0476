use native.Mathlib.Omega.{arith}
use borrow.Author.Rules.{rules}
use Rattle.host_numbers.proofs.number_of.Statement.{statement}
use Rattle.host_numbers.proofs.number_of.Tie as tie

mul-result : tie.Need-overflow_mul-result
mul-result c = omega (arith, c.before.requires)

add-result : tie.Need-overflow_add-result
add-result c = omega (arith, c.before.before.requires)

pub number_of_spec : {M : Type 1} → statement M
number_of_spec = tie.close (tie.spec (search rules) mul-result add-result (search rules))
