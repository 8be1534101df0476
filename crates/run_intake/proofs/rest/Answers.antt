use Rattle.std.proofs.Common.{refl, le_trans, arith}
use Rattle.run_intake.proofs.Room.{room-left}
use Rattle.run_intake.proofs.rest.Goals as goal

pub bytes-requires : goal.bytes-requires
bytes-requires c = (
  omega arith,
  omega arith,
  le_trans (room-left _ _ c.still_needed-more.ensures.1 c.requires.0) c.requires.1,
  refl,
)
