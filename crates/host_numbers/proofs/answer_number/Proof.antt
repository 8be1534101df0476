use mathlib.Core.Path.{sym, ap, ◌∙◌}
use borrow.Author.Rules.{rules}
use Rattle.model.specs.Answers.{said}
use Rattle.host_answer.specs.Number.{number_of}
use Rattle.host_answer.proofs.Answers.{refusal-of}
use Rattle.host_numbers.proofs.answer_number.Statement.{statement}
use Rattle.host_numbers.proofs.answer_number.Tie as tie

number-of-requires : tie.Need-number_of-requires
number-of-requires c κs = refusal-of (ap said c.in-Err.is) c.before.requires

returns : tie.Need-returns-in-Ok
returns c = sym (ap (λ a. number_of (said a)) c.in-Ok.is)

returns-2 : tie.Need-returns-in-Err
returns-2 c = c.number_of.ensures ∙ sym (ap (λ a. number_of (said a)) c.before.in-Err.is)

pub answer_number_spec : {M : Type 1} → statement M
answer_number_spec = tie.close (tie.spec (search rules) (search rules) number-of-requires returns returns-2)
