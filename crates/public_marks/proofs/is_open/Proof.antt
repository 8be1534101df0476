use Rattle.public_marks.specs.Marks.{is_open}
use Rattle.public_marks.proofs.is_open.Statement.{statement}
use Rattle.public_marks.proofs.is_open.Tie as tie

returns : tie.Need-returns
unfolding is_open
returns c = rw c.mark_at.ensures

pub is_open_spec : {M : Type 1} → statement M
is_open_spec = tie.close (tie.spec (λ c κs. tt) returns)
