-- The coordinates before the one it has come to are allowed.
use Rattle.survey.proofs.Stages.{AllowedTo}
use Rattle.survey.proofs.middle_stage.Given as goal

abbrev pub invariant-loop-i : goal.invariant-loop-i
invariant-loop-i l = AllowedTo l.face l.i
