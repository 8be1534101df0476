use mathlib.Core.Path.{ap, ◌∙◌}
use borrow.Author.Rules.{rules}
use Rattle.survey.specs.Survey.{face_share}
use Rattle.host_answer.specs.Found.{alone}
use Rattle.host_answer.proofs.Answers.{fits-as, answered-as}
use Rattle.host_share.proofs.Small.{share-small}
use Rattle.host_share.proofs.lagoon_share.Statement.{statement}
use Rattle.host_share.proofs.lagoon_share.Tie as tie

answered-requires : tie.Need-answered-requires
answered-requires c κs = fits-as c.before.face_share-answer.ensures (share-small _)

returns : tie.Need-returns
returns c =
    let d = c.before.before.before.before in
    answered-as alone _ (d.face_share-answer.ensures ∙ ap face_share d.before.face_from-face.ensures) c.before.before.answered.ensures

pub lagoon_share_spec : {M : Type 1} → statement M
lagoon_share_spec = tie.close (tie.spec (search rules) (search rules) answered-requires (search rules) returns)
