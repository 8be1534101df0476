use borrow.Author.Rules.{rules}
use mir.Syntax.{w64}
use mir.ValLaws.{to_z-of_z, to_z_pos}
use Rattle.signed.proofs.Machine.{apart_fits}
use Rattle.signed.proofs.difference.Statement.{statement}
use Rattle.signed.proofs.difference.Tie as tie

sub-result : tie.Need-overflow_sub-result
sub-result c =
    rw (to_z_pos w64 c.args.a c.requires.0, to_z_pos w64 c.args.b c.requires.1) (apart_fits c.args.a c.args.b c.requires.0 c.requires.1)

returns : tie.Need-returns
returns c =
    rw (to_z_pos w64 c.args.a c.requires.0, to_z_pos w64 c.args.b c.requires.1)
    (to_z-of_z w64 _ (apart_fits c.args.a c.args.b c.requires.0 c.requires.1))

pub difference_spec : {M : Type 1} → statement M
difference_spec = tie.close (tie.spec (search rules) (search rules) sub-result returns)
