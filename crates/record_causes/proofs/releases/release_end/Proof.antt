-- 2^32 and 2^40, as numbers.
use borrow.Author.Rules.{rules}
use Rattle.record_causes.proofs.releases.release_end.Statement.{statement}
use Rattle.record_causes.proofs.releases.release_end.Tie as tie

returns : tie.Need-returns-in-Narrow
returns c = rw c.in-Narrow.is

returns-2 : tie.Need-returns-in-Wide
returns-2 c = rw c.in-Wide.is

pub release_end_spec : {M : Type 1} → statement M
release_end_spec = tie.close (tie.spec (search rules) (search rules) returns returns-2)
