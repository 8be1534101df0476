-- Refused, the ranking is empty and its entries unused; else the entries shown are those of the ranking.
use Rattle.std.proofs.Common.{refl, ap, ◌∙◌, arith}
use Rattle.model.specs.Answers.{said}
use Rattle.board.proofs.Listed.{none-shown, entries-shown, accepted-board, refused-board}
use Rattle.board.proofs.board_after.Goals as goal

pub entries_of-requires : goal.entries_of-requires
entries_of-requires c = omega (arith, c.empty_ranking-none.ensures.0)

pub returns-in-Err : goal.returns-in-Err
returns-in-Err c =
    let none = c.empty_ranking-none in
    refused-board _ _ _ _ _ _ c.in-Err.is refl none.ensures.0 (c.entries_of.ensures ∙ none-shown none.result.ranks none.ensures.0)

pub rank-ranking-requires : goal.rank-ranking-requires
rank-ranking-requires c = c.requires (ap said c.in_default.is)

pub entries_of-requires-2 : goal.entries_of-requires-2
entries_of-requires-2 c = omega (arith, c.rank-ranking.ensures.0)

pub returns : goal.returns
returns c =
    let ranked = c.rank-ranking in
    accepted-board _ _ _ _ _ c.in_default.is refl ranked.ensures.0 (c.entries_of-2.ensures ∙ entries-shown _ _ _ _ ranked.ensures.0 ranked.ensures.1)
