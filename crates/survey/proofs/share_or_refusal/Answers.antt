-- Below 1/256 and from 1 on it is 20; between them the share is the largest k whose 256th part is not above the ratio.
use Rattle.std.proofs.Common.{sym, ◌∙◌}
use Rattle.survey.proofs.Stages.{ratio-below, ratio-not-below, ratio-between}
use Rattle.survey.proofs.share_or_refusal.Goals as goal

pub returns-then-not-is_not_above : goal.returns-then-not-is_not_above
returns-then-not-is_not_above c = c.refusal.ensures ∙ ratio-below _ (sym c.is_not_above.ensures ∙ c.if-not-is_not_above.true)

pub returns-then-is_not_above : goal.returns-then-is_not_above
returns-then-is_not_above c =
    c.refusal-then-is_not_above.ensures
    ∙ ratio-not-below _ (sym c.is_not_above.ensures ∙ c.if-not-is_not_above.false) (sym c.is_not_above-2.ensures ∙ c.if-is_not_above.true)

pub returns : goal.returns
returns c =
    ratio-between _ (sym c.is_not_above.ensures ∙ c.if-not-is_not_above.false) (sym c.is_not_above-2.ensures ∙ c.if-is_not_above.false)
    c.share_of.ensures
