use borrow.Author.Rules.{rules}
use mir.Syntax.{w64}
use mir.ValLaws.{to_z-of_z, to_z_pos}
use Rattle.signed.proofs.Machine.{minus, minus-fits}
use Rattle.signed.proofs.with_sign.Statement.{statement}
use Rattle.signed.proofs.with_sign.Tie as tie

cast-v : tie.Need-overflow_cast-v
cast-v c = search rules

sub-result : tie.Need-overflow_sub-result
sub-result c =
    let s = c.before in
    rw (to_z_pos w64 s.args.size s.requires, minus s.args.size s.requires) (minus-fits s.args.size s.requires)

returns : tie.Need-returns-then-negative
returns c =
    let s = c.before in
    rw (to_z_pos w64 s.args.size s.requires, minus s.args.size s.requires, to_z-of_z w64 _ (minus-fits s.args.size s.requires), c.if-negative.true)

returns-2 : tie.Need-returns-else-negative
returns-2 c =
    let s = c.before in
    rw (to_z_pos w64 s.args.size s.requires, c.if-negative.false)

pub with_sign_spec : {M : Type 1} → statement M
with_sign_spec = tie.close (tie.spec cast-v sub-result returns returns-2)
