-- The constant is the longest record of the layout.
use Rattle.std.proofs.Common.{arith}
use Rattle.run_intake.proofs.Room.{record_is}
use Rattle.run_intake.proofs.still_needed.Goals as goal

pub returns-then-end-got : goal.returns-then-end-got
returns-then-end-got c = (
  rw (c.in-Ok.is, record_is) (omega (arith, c.least-end.ensures)),
  λ h. rw record_is (omega (arith, record_is)),
)

pub returns : goal.returns
returns c = (
  rw (c.in-Ok.is, c.least-end.ensures, record_is),
  λ h. rw record_is (omega (arith, c.least-end.ensures, record_is)),
)
