-- A shift of 1 by fewer than 64 bits loses nothing.
use borrow.Author.Rules.{rules}
use native.Mathlib.Nat.{one-mul, mod-eq_of_lt}
use lib.Pow.{pow-lt}
use Rattle.record_bits.proofs.pow2.Statement.{statement}
use Rattle.record_bits.proofs.pow2.Tie as tie

pub pow2_spec : {M : Type 1} → statement M
pow2_spec = tie.close (tie.spec (search rules) (λ c. rw (one-mul) (mod-eq_of_lt (pow-lt c.requires))))
