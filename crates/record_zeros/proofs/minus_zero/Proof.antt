-- A sign and a size, read as one number, are a minus with size 0 where only the highest bit is set (`minus-code`).
use borrow.Author.Rules.{rules}
use Rattle.record_zeros.proofs.Minus.{minus-code}
use Rattle.record_zeros.proofs.minus_zero.Statement.{statement}
use Rattle.record_zeros.proofs.minus_zero.Tie as tie

returns : tie.Need-returns
returns c = let s = c.before.before.before in rw c.pow2.ensures
    (minus-code s.args.bytes.now s.args.at s.args.value c.before.read_bits.ensures)

pub minus_zero_spec : {M : Type 1} → statement M
minus_zero_spec = tie.close (tie.spec (search rules) (search rules) (search rules) returns)
