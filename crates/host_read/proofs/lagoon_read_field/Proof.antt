use borrow.Author.Rules.{rules}
use Rattle.host_answer.proofs.Answers.{fits-as}
use Rattle.host_read_promises.proofs.Readers.{field-named}
use Rattle.host_read_promises.proofs.ReadSmall.{field-read-small}
use Rattle.host_read.proofs.lagoon_read_field.Statement.{statement}
use Rattle.host_read.proofs.lagoon_read_field.Tie as tie

answer-number-requires : tie.Need-answer_number-requires
answer-number-requires c κs = fits-as c.before.before.read_field-answer.ensures.answer (field-read-small _ _ _ _)

returns : tie.Need-returns
returns c = field-named c.before.before.before.before.before.width_named.ensures c.before.before.before.read_field-answer.ensures
    c.answer_number.ensures

pub lagoon_read_field_spec : {M : Type 1} → statement M
lagoon_read_field_spec = tie.close (tie.spec (search rules) (search rules) answer-number-requires (search rules) returns)
