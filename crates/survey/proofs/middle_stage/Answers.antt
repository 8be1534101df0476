-- The first coordinate that is not allowed gives the answer.
use Rattle.std.proofs.Common.{◌∙◌}
use Rattle.model.proofs.Verdicts.{scan-start}
use Rattle.survey.proofs.Stages.{found-pass, found-bad, found-end}
use Rattle.survey.proofs.middle_stage.Goals as goal

pub loop-i-init : goal.loop-i-init
loop-i-init c = scan-start _ _

pub returns-then-not-is_allowed : goal.returns-then-not-is_allowed
returns-then-not-is_allowed c =
    found-bad _ _ _ c.coordinates_of-values.ensures c.loop-i.invariant c.is_allowed.ensures c.loop-i-test.true c.if-not-is_allowed.true

pub loop-i-preserved : goal.loop-i-preserved
loop-i-preserved c = found-pass _ _ _ c.coordinates_of-values.ensures c.loop-i.invariant c.is_allowed.ensures c.if-not-is_allowed.false

pub returns : goal.returns
returns c = c.ratio_of.ensures ∙ found-end _ c.loop-i.i c.loop-i.auto.i-end c.loop-i-test.false c.loop-i.invariant
