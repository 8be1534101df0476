-- Each entry of a filled table is 0.
use Rattle.std.proofs.lemmas.List.{get_or-replicate, length-replicate}
use Rattle.lists.proofs.Tables.{is-table}
use Rattle.step_cell.proofs.clear.Goals as goal

pub returns : goal.returns
returns c = rw (c.fill.ensures.after (λ y e. e)) (is-table 0 _ _ _ (length-replicate _ 0) (λ k h. get_or-replicate _ k 0 0 h))
