-- What the board answers is small, and is told as from C.
use Rattle.host_answer.proofs.Answers.{fits-as}
use Rattle.host_answer.proofs.Small.{small-giving}
use Rattle.host_answer.proofs.Tables.{mesh-field-small}
use Rattle.host_field_promises.proofs.Fields.{board-from-c}
use Rattle.host_field_promises.proofs.Boards.{board-is}
use Rattle.host_board.proofs.lagoon_table_board.Goals as goal

pub answered-requires : goal.answered-requires
answered-requires c = fits-as (board-is c.board-answer.ensures) (small-giving _ (mesh-field-small _ _))

pub returns : goal.returns
returns c = board-from-c _ _ _ c.board-answer.ensures c.answered.ensures
