use Rattle.signed.proofs.Machine.{test}
use Rattle.signed.proofs.is_negative.Statement.{statement}
use Rattle.signed.proofs.is_negative.Tie as tie

returns : tie.Need-returns
returns c = test c.args.u c.ranges.u

pub is_negative_spec : {M : Type 1} → statement M
is_negative_spec = tie.close (tie.spec returns)
