-- At once or by halves, the quotient is the definition's.
use borrow.Author.Rules.{rules}
use borrow.Author.Tests.{le-leb, lt-leb}
use Rattle.model.specs.Step.{portion}
use Rattle.step_portion.proofs.Laws.{product-fits, quotient_is}
use Rattle.step_portion.proofs.portion.Statement.{statement}
use Rattle.step_portion.proofs.portion.Tie as tie

returns : tie.Need-returns-then-p-g
unfolding portion
returns c = rw (le-leb _ _ c.if-p-g.true)

returns-2 : tie.Need-returns-then-a-few
unfolding portion
returns-2 c = rw (lt-leb _ _ c.before.before.if-p-g.false)

returns-3 : tie.Need-returns
unfolding portion
returns-3 c = rw (lt-leb _ _ c.before.before.before.if-p-g.false) (quotient_is _ _ _ _ c.by_halves-whole.ensures.0 c.by_halves-whole.ensures.1)

pub portion_spec : {M : Type 1} → statement M
portion_spec =
    tie.close
    (tie.spec returns (search rules) (λ c. record { fits = product-fits _ _ _ c.if-a-few.true c.before.few_of-few.ensures }) (search rules) returns-2
    (search rules) returns-3)
