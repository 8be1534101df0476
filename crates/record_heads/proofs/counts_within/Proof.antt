-- The lesser of each limit and the paper's, then cause 1 by the call that judges counts.
use borrow.Author.Rules.{rules}
use Rattle.record_heads.proofs.counts_within.Statement.{statement}
use Rattle.record_heads.proofs.counts_within.Tie as tie

returns : tie.Need-returns
returns c = rw (c.counts_within.ensures, c.before.least-most_faces.ensures, c.before.before.least-most_cells.ensures)

pub counts_within_spec : {M : Type 1} → statement M
counts_within_spec = tie.close (tie.spec (search rules) (search rules) (search rules) returns)
