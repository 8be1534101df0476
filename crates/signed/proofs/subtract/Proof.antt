use mir.Syntax.{w64}
use mir.ValLaws.{to_z-of_z}
use Rattle.signed.proofs.Machine.{difference-fits}
use Rattle.signed.proofs.subtract.Statement.{statement}
use Rattle.signed.proofs.subtract.Tie as tie

sub-result : tie.Need-overflow_sub-result
sub-result c = rw (to_z-of_z w64 c.args.a c.ranges.a, to_z-of_z w64 c.args.b c.ranges.b) (difference-fits c.args.a c.args.b c.requires)

returns : tie.Need-returns
returns c =
    rw (to_z-of_z w64 c.args.a c.ranges.a, to_z-of_z w64 c.args.b c.ranges.b) (to_z-of_z w64 _ (difference-fits c.args.a c.args.b c.requires))

pub subtract_spec : {M : Type 1} → statement M
subtract_spec = tie.close (tie.spec sub-result returns)
