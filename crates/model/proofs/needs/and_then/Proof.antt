use mathlib.Core.Path.{refl, sym}
use borrow.Author.Rules.{rules}
use Rattle.model.proofs.Verdicts.{past, out, refuses, passes}
use Rattle.model.proofs.needs.and_then.Statement.{statement}
use Rattle.model.proofs.needs.and_then.Tie as tie

returns : tie.Need-returns-in-Err
returns c = sym (out _ (refuses refl c.in-Err.is))

returns-2 : tie.Need-returns
returns-2 c = sym (past _ (passes refl c.in_default.is))

pub and_then_spec : {M : Type 1} → statement M
and_then_spec = tie.close (tie.spec (search rules) returns (search rules) returns-2)
