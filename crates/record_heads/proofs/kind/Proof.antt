-- The head is there, so its field is read as its bits spell (`held`).
use mathlib.Core.Path.{◌∙◌}
use native.Mathlib.Omega.{arith}
use borrow.Author.Rules.{rules}
use Rattle.record_bits.specs.Layout.{bytes_for}
use Rattle.record_layouts.specs.Layouts.{kind_bits}
use Rattle.record_heads.proofs.HeadLaws.{held}
use Rattle.record_heads.proofs.kind.Statement.{statement}
use Rattle.record_heads.proofs.kind.Tie as tie

returns : tie.Need-returns
unfolding bytes_for
returns c = c.field_after.ensures ∙ held c.before.before.args.bytes.now 0 kind_bits (omega arith) (omega arith) (omega (arith, c.before.before.requires))

pub kind_spec : {M : Type 1} → statement M
kind_spec = tie.close (tie.spec (search rules) returns)
