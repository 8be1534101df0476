use borrow.Author.Rules.{rules}
use Rattle.step_face.proofs.Places.{cell-bytes}
use Rattle.step_face.proofs.Transfers.{one-lost}
use Rattle.step_face.proofs.exchange.lose.Statement.{statement}
use Rattle.step_face.proofs.exchange.lose.Tie as tie

returns : tie.Need-returns
returns c = let s = c.before in one-lost s.args.next.now s.args.giver s.args.amount (s.requires.1, s.requires.2)

pub lose_spec : {M : Type 1} → statement M
lose_spec =
    tie.close
    (tie.spec (λ c. cell-bytes c.requires.1 c.requires.0) (λ c. c.before.requires.1) (λ c. c.before.requires.2)
    (λ c. cell-bytes c.before.requires.1 c.before.requires.0)
    (λ c. c.before.requires.1) (search rules) returns)
