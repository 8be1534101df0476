use mir.Syntax.{w64}
use mir.ValLaws.{to_z-of_z}
use Rattle.signed.proofs.Machine.{sum_fits}
use Rattle.signed.proofs.add.Statement.{statement}
use Rattle.signed.proofs.add.Tie as tie

add-result : tie.Need-overflow_add-result
add-result c = rw (to_z-of_z w64 c.args.a c.ranges.a, to_z-of_z w64 c.args.b c.ranges.b) (sum_fits c.args.a c.args.b c.requires)

returns : tie.Need-returns
returns c = rw (to_z-of_z w64 c.args.a c.ranges.a, to_z-of_z w64 c.args.b c.ranges.b) (to_z-of_z w64 _ (sum_fits c.args.a c.args.b c.requires))

pub add_spec : {M : Type 1} → statement M
add_spec = tie.close (tie.spec add-result returns)
