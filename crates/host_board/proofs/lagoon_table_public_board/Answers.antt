-- What the public board answers is small, and is told as from C.
use Rattle.host_answer.proofs.Answers.{fits-as}
use Rattle.host_answer.proofs.Small.{small-giving}
use Rattle.host_field_promises.proofs.Fields.{public-board-from-c}
use Rattle.host_field_promises.proofs.Boards.{board-after}
use Rattle.host_field_promises.proofs.BoardSmall.{public-small}
use Rattle.host_board.proofs.lagoon_table_public_board.Goals as goal

pub answered-requires : goal.answered-requires
answered-requires c = fits-as (board-after c.public_board-answer.ensures) (small-giving _ (public-small _ _ _ _))

pub returns : goal.returns
returns c = public-board-from-c _ _ _ _ c.public_board-answer.ensures c.answered.ensures
