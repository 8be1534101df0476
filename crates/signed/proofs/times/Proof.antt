use borrow.Author.Rules.{rules}
use lib.IntN.{pos}
use mir.Syntax.{w64}
use mir.ValLaws.{to_z-of_z, to_z_pos}
use Rattle.signed.proofs.Machine.{product-fits}
use Rattle.signed.proofs.times.Statement.{statement}
use Rattle.signed.proofs.times.Tie as tie

mul-result : tie.Need-overflow_mul-result
mul-result c =
    rw (to_z-of_z w64 c.args.a c.ranges.a, to_z_pos w64 c.args.n c.requires.0) (product-fits c.args.a (pos c.args.n) c.requires.1)

returns : tie.Need-returns
returns c =
    rw (to_z-of_z w64 c.args.a c.ranges.a, to_z_pos w64 c.args.n c.requires.0)
    (to_z-of_z w64 _ (product-fits c.args.a (pos c.args.n) c.requires.1))

pub times_spec : {M : Type 1} → statement M
times_spec = tie.close (tie.spec (search rules) mul-result returns)
