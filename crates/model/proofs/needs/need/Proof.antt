use mathlib.Core.Path.{sym}
use Rattle.model.proofs.Verdicts.{need-met, need-unmet}
use Rattle.model.proofs.needs.need.Statement.{statement}
use Rattle.model.proofs.needs.need.Tie as tie

returns : tie.Need-returns-then-good
returns c = sym (need-met _ _ c.if-good.true)

returns-2 : tie.Need-returns
returns-2 c = sym (need-unmet _ _ c.if-good.false)

pub need_spec : {M : Type 1} → statement M
need_spec = tie.close (tie.spec returns returns-2)
