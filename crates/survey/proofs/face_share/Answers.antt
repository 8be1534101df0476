-- Each stage's answer is that of what the middle stage found.
use Rattle.std.proofs.Common.{rules}
use Rattle.survey.specs.Survey.{face_share}
use Rattle.survey.proofs.face_share.Goals as goal

pub returns-in-Ratio : goal.returns-in-Ratio
unfolding face_share
returns-in-Ratio c = search rules

pub returns-in-Bad : goal.returns-in-Bad
unfolding face_share
returns-in-Bad c = search rules

pub returns-in-Nothing : goal.returns-in-Nothing
unfolding face_share
returns-in-Nothing c = search rules
