use mir.Syntax.{w64}
use mir.ValLaws.{to_z-of_z}
use Rattle.signed.proofs.Machine.{product-fits}
use Rattle.signed.proofs.multiply.Statement.{statement}
use Rattle.signed.proofs.multiply.Tie as tie

mul-result : tie.Need-overflow_mul-result
mul-result c = rw (to_z-of_z w64 c.args.a c.ranges.a, to_z-of_z w64 c.args.b c.ranges.b) (product-fits c.args.a c.args.b c.requires)

returns : tie.Need-returns
returns c =
    rw (to_z-of_z w64 c.args.a c.ranges.a, to_z-of_z w64 c.args.b c.ranges.b) (to_z-of_z w64 _ (product-fits c.args.a c.args.b c.requires))

pub multiply_spec : {M : Type 1} → statement M
multiply_spec = tie.close (tie.spec mul-result returns)
