-- Eight turns, each with one byte more.
use mathlib.Core.Path.{sym}
use native.Mathlib.Omega.{arith}
use borrow.Author.Rules.{rules}
use Rattle.record_bits.proofs.Fields.{bits-zero}
use Rattle.record_bits.proofs.eight.Statement.{statement}
use Rattle.record_bits.proofs.eight.Tie as tie

start : tie.Need-joined-one-requires
start c κs = let s = c.before in (omega (arith, s.requires.0), omega (arith, s.requires.1), omega arith, sym (bits-zero _ _))

pub eight_spec : {M : Type 1} → statement M
eight_spec =
    tie.close
    (tie.spec start (search rules) (search rules) (search rules) (search rules) (search rules) (search rules) (search rules) (search rules))
