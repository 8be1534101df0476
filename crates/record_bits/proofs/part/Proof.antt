-- A quotient and a remainder by powers of two, which are not 0.
use borrow.Author.Rules.{rules}
use lib.Pow.{pow_pos}
use Rattle.record_bits.proofs.part.Statement.{statement}
use Rattle.record_bits.proofs.part.Tie as tie

pub part_spec : {M : Type 1} → statement M
part_spec = tie.close (tie.spec (search rules) (search rules) (λ c. rw c.pow2.ensures (pow_pos _)) (λ c. rw c.pow2.ensures))
