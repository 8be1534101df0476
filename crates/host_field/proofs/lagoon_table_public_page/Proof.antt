use native.Mathlib.Omega.{arith}
use borrow.Author.Rules.{rules}
use Rattle.host_answer.proofs.Answers.{fits-as}
use Rattle.host_answer.proofs.Small.{small-giving}
use Rattle.host_field_promises.proofs.PageSmall.{public-page-small}
use Rattle.host_field_promises.proofs.Fields.{public-page-from-c}
use Rattle.host_field.proofs.lagoon_table_public_page.Statement.{statement}
use Rattle.host_field.proofs.lagoon_table_public_page.Tie as tie

page-answered-requires : tie.Need-page_answered-requires
page-answered-requires c κs =
    let d = c.before.before.before in
    let s = d.before.before.before.before.before.before.before in
    fits-as d.public_page-answer.ensures.answer (small-giving _ (public-page-small _ _ _ _ _ _ (omega (arith, s.ranges.page.fits))))

returns : tie.Need-returns
returns c = public-page-from-c _ _ _ c.before.before.before.before.before.before.public_page-answer.ensures c.before.before.page_answered.ensures

pub lagoon_table_public_page_spec : {M : Type 1} → statement M
lagoon_table_public_page_spec = tie.close (tie.spec (search rules) page-answered-requires (search rules) (search rules) returns)
