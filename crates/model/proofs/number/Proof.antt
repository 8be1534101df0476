-- Each case answers its own number; with so many of them each is said.
use borrow.Author.Rules.{rules}
use Rattle.model.proofs.number.Statement.{statement}
use Rattle.model.proofs.number.Tie as tie

pub number_spec : {M : Type 1} → statement M
number_spec =
    tie.close
    (tie.spec
    (search rules) (search rules) (search rules) (search rules) (search rules) (search rules)
    (search rules) (search rules) (search rules) (search rules) (search rules) (search rules)
    (search rules) (search rules) (search rules) (search rules) (search rules) (search rules)
    (search rules) (search rules) (search rules) (search rules) (search rules) (search rules)
    (search rules) (search rules) (search rules)
    (λ c. rw c.in-Limits.is) (λ c. rw c.in-Table.is) (λ c. rw c.in-Volume.is)
    (λ c. rw c.in-Ends.is) (λ c. rw c.in-Spacing.is) (λ c. rw c.in-Concentration.is)
    (λ c. rw c.in-Outside.is) (λ c. rw c.in-Flux.is) (λ c. rw c.in-Balance.is)
    (λ c. rw c.in-Outflow.is) (λ c. rw c.in-Length.is) (λ c. rw c.in-Bit.is)
    (λ c. rw c.in-Head.is) (λ c. rw c.in-Page.is) (λ c. rw c.in-Name.is)
    (λ c. rw c.in-Room.is) (λ c. rw c.in-Unkept.is) (λ c. rw c.in-Release.is)
    (λ c. rw c.in-Coordinate.is) (λ c. rw c.in-Ratio.is) (λ c. rw c.in-Moved.is)
    (λ c. rw c.in-Bounds.is) (λ c. rw c.in-Label.is) (λ c. rw c.in-Part.is)
    (λ c. rw c.in-Bands.is) (λ c. rw c.in-Period.is) (λ c. rw c.in-Mark.is))
