-- Dividing by 256 and then by the reach divides by 256 times it.
use native.Mathlib.Nat.{div-div-eq-div-mul}
use borrow.Author.Rules.{rules}
use mir.Syntax.{w64}
use mir.ValLaws.{to_z-of_z}
use Rattle.signed.specs.Sign.{size}
use Rattle.step_face.proofs.correction.correction_size.Statement.{statement}
use Rattle.step_face.proofs.correction.correction_size.Tie as tie

returns : tie.Need-returns
returns c =
    let s = c.before in
    rw (c.size.ensures, to_z-of_z w64 s.args.product s.ranges.product) (div-div-eq-div-mul (size s.args.product) 256 s.args.reach)

pub correction_size_spec : {M : Type 1} → statement M
correction_size_spec = tie.close (tie.spec (search rules) (search rules) returns)
