-- Each turn ranks one cell more, or leaves it out.
use Rattle.std.proofs.Common.{arith}
use Rattle.board.proofs.Listed.{none-ranked, one_more, all-ranked}
use Rattle.board.proofs.rank.Goals as goal

pub loop-c-init : goal.loop-c-init
loop-c-init c = none-ranked _ _ _ _ c.empty_ranking-ranking.ensures.0 c.empty_ranking-ranking.ensures.1

pub insert_if-ranking-requires : goal.insert_if-ranking-requires
insert_if-ranking-requires c = omega (arith, c.loop-c.invariant.counted)

pub loop-c-preserved : goal.loop-c-preserved
loop-c-preserved c =
    one_more _ _ _ c.loop-c.invariant c.loop-c-test.true c.ranked_of-ranked.ensures _ c.is_open.ensures c.insert_if-ranking.ensures

pub returns : goal.returns
returns c = all-ranked _ _ _ c.loop-c.invariant c.loop-c-test.false
