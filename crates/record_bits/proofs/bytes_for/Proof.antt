-- Seven bits more and whole bytes of that, as the definition says it.
use mathlib.Core.Path.{refl}
use borrow.Author.Rules.{rules}
use Rattle.record_bits.specs.Layout.{bytes_for}
use Rattle.record_bits.proofs.bytes_for.Statement.{statement}
use Rattle.record_bits.proofs.bytes_for.Tie as tie

returns : tie.Need-returns
unfolding bytes_for
returns c = refl

pub bytes_for_spec : {M : Type 1} → statement M
bytes_for_spec = tie.close (tie.spec (search rules) returns)
