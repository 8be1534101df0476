use borrow.Author.Rules.{rules}
use mir.Syntax.{w64}
use mir.ValLaws.{to_z-of_z}
use Rattle.signed.proofs.put.Statement.{statement}
use Rattle.signed.proofs.put.Tie as tie

returns : tie.Need-returns
returns c = rw (to_z-of_z w64 c.with_sign-v.result (record { sfits = c.with_sign-v.type_inv }), c.with_sign-v.ensures)

pub put_spec : {M : Type 1} → statement M
put_spec = tie.close (tie.spec (search rules) (search rules) (search rules) (search rules) returns)
