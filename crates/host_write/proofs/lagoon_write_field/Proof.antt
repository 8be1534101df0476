use borrow.Author.Rules.{rules}
use Rattle.host_answer.proofs.Answers.{fits-as}
use Rattle.host_answer.proofs.Small.{small-giving}
use Rattle.host_read_promises.proofs.WriteSmall.{field-write-small}
use Rattle.host_read_promises.proofs.Writers.{field-named}
use Rattle.host_write.proofs.lagoon_write_field.Statement.{statement}
use Rattle.host_write.proofs.lagoon_write_field.Tie as tie

answered-requires : tie.Need-answered-requires
answered-requires c κs = fits-as c.before.before.before.write_field-answer.ensures.answer (small-giving _ (field-write-small _ _ _ _))

returns : tie.Need-returns
returns c =
    let d = c.before.before.before.before.before.before in
    field-named d.before.before.width_named.ensures _ _ d.write_field-answer.ensures c.before.before.answered.ensures

pub lagoon_write_field_spec : {M : Type 1} → statement M
lagoon_write_field_spec = tie.close (tie.spec (search rules) (search rules) answered-requires (search rules) (search rules) returns)
