use mathlib.Core.Path.{◌∙◌, ap}
use borrow.Author.Rules.{rules}
use lib.IntN.{pos}
use lib.ListN.{get_or}
use mir.Syntax.{w64}
use mir.ValLaws.{to_z-of_z}
use Rattle.signed.specs.Sign.{is_negative}
use Rattle.signed.proofs.is_negative_at.Statement.{statement}
use Rattle.signed.proofs.is_negative_at.Tie as tie

-- the machine's bits of the entry are read back as the entry
returns : tie.Need-returns
returns c =
    let s = c.before.before in
    c.is_negative.ensures ∙ ap is_negative (to_z-of_z w64 (get_or s.args.xs.now s.args.i (pos 0)) (record { sfits = c.before.is_negative-arg-1.given }))

pub is_negative_at_spec : {M : Type 1} → statement M
is_negative_at_spec = tie.close (tie.spec (search rules) (search rules) (search rules) returns)
