use native.Mathlib.Omega.{arith}
use borrow.Author.Rules.{rules}
use Rattle.host_answer.proofs.Answers.{fits-as}
use Rattle.model.specs.Causes.{fine}
use Rattle.host_answer.proofs.Small.{small-fine, small-giving}
use Rattle.host_field_promises.proofs.PageSmall.{page-small}
use Rattle.host_field_promises.proofs.Fields.{page-from-c}
use Rattle.host_field.proofs.lagoon_table_page.Statement.{statement}
use Rattle.host_field.proofs.lagoon_table_page.Tie as tie

page-answered-requires : tie.Need-page_answered-requires
page-answered-requires c κs =
    let d = c.before.before.before in
    let s = d.before.before.before.before.before.before in
    fits-as d.page-answer.ensures.answer (small-giving _ (page-small fine _ _ _ _ _ (small-fine tt) (omega (arith, s.ranges.page.fits))))

returns : tie.Need-returns
returns c = page-from-c _ _ _ c.before.before.before.before.before.before.page-answer.ensures c.before.before.page_answered.ensures

pub lagoon_table_page_spec : {M : Type 1} → statement M
lagoon_table_page_spec = tie.close (tie.spec (search rules) page-answered-requires (search rules) (search rules) returns)
