-- How many are used and then the entries, in one list.
use Rattle.host_field_promises.proofs.Boards.{entries-fill}
use Rattle.host_board.proofs.fill_board.Goals as goal

pub returns : goal.returns
returns c = rw (c.fill_entries.ensures, c.fill1.ensures) (entries-fill _ _ _ _)
