use borrow.Author.Rules.{rules}
use Rattle.host_answer.proofs.Answers.{fits-as}
use Rattle.host_answer.proofs.Small.{small-giving}
use Rattle.host_answer.proofs.Tables.{mesh-field-small}
use Rattle.host_field_promises.proofs.Fields.{total-from-c}
use Rattle.host_field.proofs.lagoon_table_total.Statement.{statement}
use Rattle.host_field.proofs.lagoon_table_total.Tie as tie

total-answered-requires : tie.Need-total_answered-requires
total-answered-requires c κs = fits-as c.before.total-answer.ensures (small-giving _ (mesh-field-small _ _))

returns : tie.Need-returns
returns c = total-from-c _ _ _ c.before.before.before.before.total-answer.ensures c.before.before.total_answered.ensures

pub lagoon_table_total_spec : {M : Type 1} → statement M
lagoon_table_total_spec = tie.close (tie.spec (search rules) total-answered-requires (search rules) returns)
